use Rattle.std.proofs.Common.{◌≡◌, length, ℕ, Some}
use Rattle.std.specs.Prelude.{slice_get}
use Rattle.limit_tree.specs.Outline.{limits}
use Rattle.rate_plan.specs.declared.shares.TransferShare.{TransferShare}
use Rattle.rate_plan.specs.Shared.{IsShareOf}
use Rattle.rate_plan.proofs.shares.leaf_shares.Given as goal

abbrev pub invariant-loop-leaf : goal.invariant-loop-leaf
invariant-loop-leaf g l = record {
  count : length l.shares.items ≡ l.leaf;
  each : (i : ℕ) (s : TransferShare) → slice_get l.shares.items i ≡ Some s → IsShareOf l.limits l.order (limits l.tree) l.grants i s;
}
