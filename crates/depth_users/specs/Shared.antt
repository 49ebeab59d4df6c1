-- Sharing among the users of a depth.
use Rattle.std.specs.Prelude.{ℕ, List, Option, length}
use Rattle.limit_tree.specs.Outline.{limits}
use Rattle.limit_tree.specs.Sharing.{IsWithin}
use Rattle.limit_tree.specs.declared.place.Place.{Place}
use Rattle.grant_certificate.specs.Users.{IsBackedByUsers, IsBestByUsers}
use Rattle.depth_users.specs.Owners.{AreOwners}

-- The grants are within the limits, best among the users of the depth and then among the leaves of
-- each, and backed so by the certificate. The number of a user is that of its node; a node that is
-- no user has 0 in all grants.
pub record IsSharedAt (outline : List Place) (depth : ℕ) (g : List ℕ)
    (c : List (Option ℕ)) : Type 0 where
  pub owners : List ℕ
  pub are_owners : AreOwners outline depth owners
  pub within : IsWithin (limits outline) g
  pub backed : IsBackedByUsers (limits outline) owners g c
  pub best : IsBestByUsers (limits outline) (length outline) owners g
