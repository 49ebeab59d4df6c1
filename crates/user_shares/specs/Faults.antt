-- When nothing is shared among users.
use Rattle.std.specs.Prelude.{ℕ, ◌<◌, ◌≤◌, List, ⊤}
use Rattle.limit_tree.specs.Sharing.{LimitTree}
use Rattle.limit_tree.specs.declared.bounds.TheConstants.{MAX_WANT}
use Rattle.grant_certificate.specs.TwoStages.{IsMost}
use Rattle.user_shares.specs.declared.fault.UserShareFault.{UserShareFault}
use Rattle.user_shares.specs.declared.fault.UserShareFault.TheVariants.{Memory, WantTooLarge}

-- a user that can have more than the largest want of a tree
pub record IsTooLarge (t : LimitTree) (users : ℕ) (owners : List ℕ) (user : ℕ) : Type 0 where
  pub less : user < users
  pub most : ℕ
  pub is_most : IsMost t owners user most
  pub large : MAX_WANT < most

-- memory runs out in any case
abbrev pub IsUserFault : LimitTree → ℕ → List ℕ → UserShareFault → Type 0
IsUserFault t users owners Memory = ⊤
IsUserFault t users owners (WantTooLarge user) = IsTooLarge t users owners user

-- no user can have more than the largest want of a tree
abbrev pub AreSmall : LimitTree → ℕ → List ℕ → Type 0
AreSmall t users owners =
    (user most : ℕ) → user < users → IsMost t owners user most → most ≤ MAX_WANT
