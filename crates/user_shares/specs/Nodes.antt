-- Users as branches of a tree.
use Rattle.std.specs.Prelude.{◌≡◌, ℕ, ◌<◌, ◌≤◌, false, List, length, slice_get, slice_index, Some}
use Rattle.limit_tree.specs.Outline.{is_leaf_kind, leaf_range, limits}
use Rattle.limit_tree.specs.declared.place.Place.{Place}
use Rattle.grant_certificate.specs.Users.{leaves_of}

-- Node `k` is a branch with a leaf, and its leaves are those of the user.
pub record IsUserNode (outline : List Place) (owners : List ℕ) (user k : ℕ) : Type 0 where
  pub place : Place
  pub found : slice_get outline k ≡ Some place
  pub branch : is_leaf_kind place.kind ≡ false
  pub some : 1 ≤ place.leaves
  pub holds : (i : ℕ) → leaves_of owners user i ≡ leaf_range place.first place.leaves i

-- Each leaf has a user, and the leaves of each user are those of a branch, of which `users` has the
-- number.
pub record AreUsers (outline : List Place) (users owners : List ℕ) : Type 0 where
  pub each : length owners ≡ length (limits outline).wants
  pub few : (i : ℕ) → i < length owners → slice_index owners i < length users
  pub node : (u : ℕ) → u < length users → IsUserNode outline owners u (slice_index users u)

-- Each leaf is a user of its own, with the number of the leaf.
abbrev pub AreTheirOwn : List ℕ → Type 0
AreTheirOwn owners = (i : ℕ) → i < length owners → slice_index owners i ≡ i
