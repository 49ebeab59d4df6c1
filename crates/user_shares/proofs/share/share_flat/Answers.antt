use Rattle.std.proofs.Common.{ℕ, ◌<◌, ◌≤◌, List, length, sym, subst}
use Rattle.std.specs.Prelude.{slice_index}
use Rattle.limit_tree.specs.Outline.{limits}
use Rattle.limit_tree.specs.declared.bounds.TheConstants.{MAX_WANT}
use Rattle.user_shares.specs.Stages.{AreMost}
use Rattle.user_shares.proofs.SmallUsers.{small-users}
use Rattle.user_shares.proofs.share.share_flat.Goals as goal

pub share_most-requires-clause-most : goal.share_most-requires-clause-most
share_most-requires-clause-most g c = subst (λ (xs : List ℕ). AreMost (limits c.args.flat.now) (length c.args.users.now) c.args.owners.now xs) (sym c.deref.ensures.value) c.in_ok-most.ensures.most

pub returns-clause-small : goal.returns-clause-small
returns-clause-small g c =
    small-users (limits c.args.flat.now) (length c.args.users.now) c.args.owners.now c.in_ok-most.most.items c.in_ok-most.ensures.most
    (subst (λ (xs : List ℕ). (u : ℕ) → u < length xs → slice_index xs u ≤ MAX_WANT) c.deref.ensures.value c.in_ok-shared.ensures.small)
