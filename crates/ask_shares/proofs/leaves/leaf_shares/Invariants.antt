use Rattle.std.proofs.Common.{◌≡◌, length, ℕ, Some}
use Rattle.std.specs.Prelude.{slice_get}
use Rattle.limit_tree.specs.Outline.{limits}
use Rattle.ask_shares.specs.declared.share.AskShare.{AskShare}
use Rattle.ask_shares.specs.Leaves.{IsLeafShare}
use Rattle.ask_shares.proofs.leaves.leaf_shares.Given as goal

abbrev pub invariant-loop-leaf : goal.invariant-loop-leaf
invariant-loop-leaf g l = record {
  count : length l.shares.items ≡ l.leaf;
  each : (i : ℕ) (s : AskShare) → slice_get l.shares.items i ≡ Some s → IsLeafShare l.limits l.tick l.asks l.lanes (limits l.sealed.tree) l.sealed.grants i s;
}
