use Rattle.std.proofs.Common.{ℕ, ◌≡◌, ◌<◌}
use Rattle.std.specs.Prelude.{slice_index}
use Rattle.grant_certificate.specs.Ranges.{IsNear}
use Rattle.grant_certificate.proofs.by_users.are_near.Given as goal

abbrev pub invariant-loop-leaf : goal.invariant-loop-leaf
invariant-loop-leaf l = (j : ℕ) → j < l.leaf → slice_index l.owners j ≡ l.user → IsNear l.grants l.floors l.grant j
