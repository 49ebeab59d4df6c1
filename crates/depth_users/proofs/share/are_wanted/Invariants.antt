use Rattle.std.proofs.Common.{ℕ, ◌<◌, ◌≤◌}
use Rattle.std.specs.Prelude.{slice_index}
use Rattle.limit_tree.specs.Outline.{limits}
use Rattle.depth_users.proofs.share.are_wanted.Given as goal

abbrev pub invariant-loop-leaf : goal.invariant-loop-leaf
invariant-loop-leaf g l = (i : ℕ) → i < l.leaf → slice_index l.grants i ≤ slice_index (limits l.flat).wants i
