use Rattle.std.proofs.Common.{ℕ, ◌<◌}
use Rattle.limit_tree.specs.Outline.{limits}
use Rattle.limit_tree.specs.Sharing.{IsUnmet}
use Rattle.grant_certificate.specs.Users.{HasUserNeck}
use Rattle.grant_certificate.proofs.by_users.are_backed.Given as goal

abbrev pub invariant-loop-leaf : goal.invariant-loop-leaf
invariant-loop-leaf g l =
    (i : ℕ) → i < l.leaf → IsUnmet (limits l.tree) l.of.grants.now i
    → HasUserNeck (limits l.tree) l.of.owners.now l.of.grants.now l.entries i
