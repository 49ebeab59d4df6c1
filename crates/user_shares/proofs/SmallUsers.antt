-- No user can have more than the largest want.
use Rattle.std.proofs.Common.{ℕ, ◌<◌, ◌≤◌, List, length, arith}
use Rattle.std.specs.Prelude.{slice_index}
use Rattle.limit_tree.specs.Sharing.{LimitTree}
use Rattle.limit_tree.specs.declared.bounds.TheConstants.{MAX_WANT}
use Rattle.user_shares.specs.Faults.{AreSmall}
use Rattle.user_shares.specs.Stages.{AreMost}

pub small-users : (t : LimitTree) (users : ℕ) (owners mosts : List ℕ) → AreMost t users owners mosts → ((u : ℕ) → u < length mosts → slice_index mosts u ≤ MAX_WANT) → AreSmall t users owners
small-users t users owners mosts is small user most less is_most =
    let found = is_most.some in
    omega (arith, found.2, (is.most user less).bound found.0 found.1, small user (omega (arith, less, is.each)))
