use Rattle.std.proofs.Common.{sym, ap, ◌∙◌, ◌&&◌, ◌≡◌, ◌==◌, not, false, length}
use Rattle.std.specs.Str.{all_ascii_digits}
use Rattle.ftp_wire.proofs.Numbers.{all_digits}
use Rattle.ftp_wire.proofs.arguments.is_number.Goals as goal

pub returns : goal.returns
returns c =
    let text = c.args.text.now in
    let some : (length text == 0) ≡ false = sym c.is_empty.ensures ∙ c.if-is_empty.false in
    record { number = c.has_only_digits.ensures.digits ∙ all_digits text ∙ sym (ap (λ b. not b && all_ascii_digits text) some) }
