use Rattle.std.proofs.Common.{◌≡◌, ℕ, List, sym, subst, arith, Some}
use Rattle.std.specs.Prelude.{slice_get}
use Rattle.limit_tree.specs.Outline.{limits}
use Rattle.rate_plan.specs.declared.shares.TransferShare.{TransferShare}
use Rattle.rate_plan.specs.Shared.{IsShareOf}
use Rattle.rate_plan.proofs.Pushed.{pushed}
use Rattle.rate_plan.proofs.shares.leaf_shares.Goals as goal

pub loop-leaf-preserved : goal.loop-leaf-preserved
loop-leaf-preserved g c = record {
  count = omega (arith, c.loop-leaf.invariant.count, c.in_ok-push.ensures.len);
  each = subst (λ (xs : List TransferShare). (i : ℕ) (s : TransferShare) → slice_get xs i ≡ Some s → IsShareOf c.args.limits.now c.args.order.now (limits c.args.tree.now) c.args.grants.now i s) (sym c.in_ok-push.ensures.items)
      (pushed (IsShareOf c.args.limits.now c.args.order.now (limits c.args.tree.now) c.args.grants.now) c.loop-leaf.shares.items c.leaf_share.result c.loop-leaf.invariant.each
      (subst (λ (k : ℕ). IsShareOf c.args.limits.now c.args.order.now (limits c.args.tree.now) c.args.grants.now k c.leaf_share.result) (sym c.loop-leaf.invariant.count) c.leaf_share.ensures.share));
}
