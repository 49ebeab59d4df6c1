use Rattle.std.proofs.Common.{◌≡◌, ◌<◌, ℕ, None, length}
use Rattle.std.specs.Prelude.{slice_index_or}
use Rattle.limit_tree.specs.Outline.{limits}
use Rattle.round_tally.specs.Held.{IsHeldBy}
use Rattle.paced_rounds.proofs.held.name_leaves.Given as goal

abbrev pub invariant-loop-leaf : goal.invariant-loop-leaf
invariant-loop-leaf g l = record {
  size : length l.names ≡ 64;
  held : (i : ℕ) → i < l.leaf → IsHeldBy l.limits l.tick l.asks (limits l.sealed.tree) l.sealed.grants i (slice_index_or l.names i None);
}
