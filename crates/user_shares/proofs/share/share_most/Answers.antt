use Rattle.std.proofs.Common.{ℕ, List, length, sym, subst}
use Rattle.limit_tree.specs.Outline.{limits}
use Rattle.user_shares.specs.Stages.{AreOuterTotals}
use Rattle.user_shares.proofs.share.share_most.Goals as goal

pub share_totals-requires-clause-totals : goal.share_totals-requires-clause-totals
share_totals-requires-clause-totals g c = subst (λ (xs : List ℕ). AreOuterTotals (limits c.args.flat.now) (length c.args.users.now) c.args.owners.now xs) (sym c.deref.ensures.value) c.in_ok-totals.ensures.totals
