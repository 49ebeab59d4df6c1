use Rattle.std.proofs.Common.{ℕ, ◌<◌}
use Rattle.limit_tree.specs.Outline.{limits}
use Rattle.grant_certificate.specs.Flaws.{IsBackedAt}
use Rattle.grant_certificate.proofs.checker.backing_flaw.Given as goal

abbrev pub invariant-loop-leaf : goal.invariant-loop-leaf
invariant-loop-leaf g l = (j : ℕ) → j < l.leaf → IsBackedAt (limits l.tree) l.grants l.entries j
