use Rattle.std.proofs.Common.{◌≡◌, take}
use Rattle.std.specs.Prelude.{map}
use Rattle.std.specs.Int.Digits.{number_from_digits}
use Rattle.sheet_text.specs.Text.{digit}
use Rattle.sheet_text.proofs.number.value_of.Given as goal

abbrev pub invariant-loop-digit : goal.invariant-loop-digit
invariant-loop-digit l = l.value ≡ number_from_digits 10 (take l.digit-index (map digit l.digits))
