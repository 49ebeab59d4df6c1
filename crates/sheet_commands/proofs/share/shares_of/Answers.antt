use Rattle.std.proofs.Common.{◌<◌, subst, sym, ap, arith, zero, suc, List, [], ◌∷◌, length, get_or, ℕ}
use Rattle.std.specs.List.{AllByRecursion}
use Rattle.sheet_commands.proofs.ShareTotals.{total_fits}
use Rattle.sheet_commands.proofs.share.shares_of.Goals as goal

-- each of some leaves is below what all of them are below
leaf_below : (most : ℕ) (leaves : List ℕ) (i : ℕ) → AllByRecursion (λ leaf. leaf < most) leaves → i < length leaves → get_or leaves i 0 < most
leaf_below most [] i all less = absurd (omega arith)
leaf_below most (leaf ∷ leaves) zero all less = all.0
leaf_below most (leaf ∷ leaves) (suc i) all less = leaf_below most leaves i all.1 (omega arith)

pub share_of-share-requires-clause-leaf : goal.share_of-share-requires-clause-leaf
share_of-share-requires-clause-leaf g c =
    let most = length c.args.sheet.now.leaves in
    let all = subst (AllByRecursion (λ leaf. leaf < most)) (sym c.wants-leaves.ensures.wants) c.wants-leaves.ensures.leaves in
    omega (arith, leaf_below most c.wants-leaves.result.now c.loop-leaf.leaf-index all c.loop-leaf-test.true, c.requires.grants, c.requires.leaves)

pub returns-clause-fits : goal.returns-clause-fits
returns-clause-fits g c = subst (λ (n : ℕ). n < 18446744073709551616) (sym c.loop-leaf.invariant.totals) (total_fits c.args.grants.now c.wants-leaves.result.now c.loop-leaf.leaf-index (omega (arith, c.wants-leaves.ensures.few, ap length c.wants-leaves.ensures.wants)) c.requires.few)
