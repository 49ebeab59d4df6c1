use Rattle.std.proofs.Common.{ℕ, ◌≡◌, ◌<◌, ◌≤◌}
use Rattle.std.specs.Prelude.{slice_index}
use Rattle.grant_certificate.proofs.by_users.are_of.Given as goal

abbrev pub invariant-loop-leaf : goal.invariant-loop-leaf
invariant-loop-leaf l = (j : ℕ) → l.first ≤ j → j < l.leaf → slice_index l.owners j ≡ l.user
