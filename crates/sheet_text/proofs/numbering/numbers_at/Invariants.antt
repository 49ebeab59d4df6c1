use Rattle.std.proofs.Common.{◌≡◌, Some, None, map, take, get_or}
use Rattle.sheet_text.proofs.numbering.numbers_at.Given as goal

abbrev pub invariant-loop-place : goal.invariant-loop-place
invariant-loop-place g l = map Some l.found.items ≡ map (λ place. get_or l.numbers place None) (take l.place-index l.places)
