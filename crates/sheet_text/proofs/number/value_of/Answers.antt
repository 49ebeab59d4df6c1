use Rattle.std.proofs.Common.{ap, arith, get_or, ◌*◌, ◌+◌, ◌-◌}
use Rattle.std.specs.Char.{is_ascii_digit}
use Rattle.sheet_text.proofs.Numbers.{all_at, digit_bounds, value_small, value_more}
use Rattle.sheet_text.proofs.number.value_of.Goals as goal

pub overflow_mul-value : goal.overflow_mul-value
overflow_mul-value c =
    let small = value_small c.args.digits.now c.loop-digit.digit-index c.requires.digits (let few = c.requires.few in omega arith) in
    omega (arith, small, c.loop-digit.invariant)

pub overflow_add-value : goal.overflow_add-value
overflow_add-value c =
    let i = c.loop-digit.digit-index in
    let small = value_small c.args.digits.now i c.requires.digits (let few = c.requires.few in omega arith) in
    let bounds = digit_bounds (get_or c.args.digits.now i 0) (all_at is_ascii_digit c.args.digits.now i 0 c.requires.digits (omega arith)) in
    omega (arith, small, c.loop-digit.invariant, bounds.0, bounds.1)

pub loop-digit-preserved : goal.loop-digit-preserved
loop-digit-preserved c =
    let more = value_more c.args.digits.now c.loop-digit.digit-index (omega arith) in
    let was = ap (λ n. n * 10 + (get_or c.args.digits.now c.loop-digit.digit-index 0 - 48)) c.loop-digit.invariant in
    let is = c.from.ensures in
    cc
