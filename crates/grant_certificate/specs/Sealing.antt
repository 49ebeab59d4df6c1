-- Sealed grants.
use Rattle.std.specs.Prelude.{ℕ, List, Option, Some, None}
use Rattle.limit_tree.specs.Sharing.{LimitTree, IsWithin, IsBackedBy, IsBest}
use Rattle.limit_tree.specs.Outline.{limits}
use Rattle.limit_tree.specs.declared.place.Place.{Place}
use Rattle.grant_certificate.specs.Users.{HasUsers, IsBackedByUsers, IsBestByUsers}

-- the nodes of the tree in preorder, the grants and the certificate; and the user of each leaf, if
-- the tree is shared among users
pub record Sealing : Type 0 where
  pub tree : List Place
  pub owners : Option (List ℕ)
  pub grants : List ℕ
  pub certificate : List (Option ℕ)

-- backed by the certificate, among users if leaves have them
abbrev pub IsBackedFor : Option (List ℕ) → LimitTree → List ℕ → List (Option ℕ) → Type 0
IsBackedFor None t g c = IsBackedBy t g c
IsBackedFor (Some owners) t g c = IsBackedByUsers t owners g c

-- best, by users if leaves have them, whatever number of users is counted
abbrev pub IsBestFor : Option (List ℕ) → LimitTree → List ℕ → Type 0
IsBestFor None t g = IsBest t g
IsBestFor (Some owners) t g =
    ((users : ℕ) × HasUsers t users owners)
    × ((users : ℕ) → HasUsers t users owners → IsBestByUsers t users owners g)

-- the grants are within the limits of the tree, backed by the certificate, and best
pub record IsSealed (tree : List Place) (owners : Option (List ℕ)) (g : List ℕ)
    (c : List (Option ℕ)) : Type 0 where
  pub within : IsWithin (limits tree) g
  pub backed : IsBackedFor owners (limits tree) g c
  pub best : IsBestFor owners (limits tree) g
