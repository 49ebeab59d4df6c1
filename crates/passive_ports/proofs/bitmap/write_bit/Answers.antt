use Rattle.std.proofs.Common.{◌/◌, ◌%◌, ap, ◌∙◌, sym, get_or, nat_eq, arith}
use Rattle.std.specs.Int.{w64}
use Rattle.std.proofs.lemmas.Nat.Bits.{bit_at_set_same, bit_at_set_other, bit_at_clear_same, bit_at_clear_other}
use Rattle.passive_ports.proofs.BitLemmas.{puts_bit}
use Rattle.passive_ports.proofs.bitmap.write_bit.Goals as goal

pub returns-then-value : goal.returns-then-value
returns-then-value c =
    let n = get_or c.args.words.now (c.args.place / 64) 0 in
    let i = c.args.place % 64 in
    record {
      put = puts_bit c.args.words.now c.args.place _ c.args.value c.requires
          (ap (λ b. nat_eq b 1) (bit_at_set_same w64 n i (omega arith)) ∙ sym c.if-value.true)
          (λ other few apart. bit_at_set_other w64 n i (omega arith) other apart);
    }

pub returns-else-value : goal.returns-else-value
returns-else-value c =
    let n = get_or c.args.words.now (c.args.place / 64) 0 in
    let i = c.args.place % 64 in
    record {
      put = puts_bit c.args.words.now c.args.place _ c.args.value c.requires
          (ap (λ b. nat_eq b 1) (bit_at_clear_same w64 n i (omega arith)) ∙ sym c.if-value.false)
          (λ other few apart. bit_at_clear_other w64 n i (omega arith) other few apart);
    }
