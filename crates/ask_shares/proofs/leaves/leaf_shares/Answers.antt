use Rattle.std.proofs.Common.{◌≡◌, ◌+◌, ◌++◌, ◌∷◌, [], ℕ, List, length, sym, subst, arith, Some}
use Rattle.std.specs.Prelude.{slice_get}
use Rattle.limit_tree.specs.Outline.{limits}
use Rattle.ask_shares.specs.declared.share.AskShare.{AskShare}
use Rattle.ask_shares.specs.Leaves.{IsLeafShare}
use Rattle.ask_shares.proofs.Pushed.{pushed}
use Rattle.ask_shares.proofs.leaves.leaf_shares.Goals as goal

pub loop-leaf-preserved : goal.loop-leaf-preserved
loop-leaf-preserved g c =
    let P : ℕ → AskShare → Type 0 = λ i s. IsLeafShare c.args.limits.now c.args.tick c.args.asks.now c.args.lanes.now (limits c.args.sealed.now.tree) c.args.sealed.now.grants i s in
    record {
      count = omega (arith, c.loop-leaf.invariant.count, c.in_ok-push.ensures.len);
      each = subst (λ (xs : List AskShare). (i : ℕ) (s : AskShare) → slice_get xs i ≡ Some s → P i s) (sym c.in_ok-push.ensures.items)
          (pushed P c.loop-leaf.shares.items c.leaf_share.result c.loop-leaf.invariant.each
          (subst (λ (k : ℕ). P k c.leaf_share.result) (sym c.loop-leaf.invariant.count) c.leaf_share.ensures.share));
    }
