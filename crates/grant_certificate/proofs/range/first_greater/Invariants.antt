use Rattle.std.proofs.Common.{ℕ, ◌<◌, ◌≤◌}
use Rattle.grant_certificate.specs.Ranges.{IsNear}
use Rattle.grant_certificate.proofs.range.first_greater.Given as goal

abbrev pub invariant-loop-leaf : goal.invariant-loop-leaf
invariant-loop-leaf l = (j : ℕ) → l.first ≤ j → j < l.leaf → IsNear l.grants l.floors l.grant j
