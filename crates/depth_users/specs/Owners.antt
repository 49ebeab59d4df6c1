-- The users of a tree's leaves, by a depth: the nodes at that depth, and each leaf above it.
use Rattle.std.specs.Prelude.{◌≡◌, ℕ, ◌<◌, ◌≤◌, ◌⊎◌, List, Some, IsTrue, length, slice_get, slice_index}
use Rattle.limit_tree.specs.Outline.{leaf_range, limits}
use Rattle.limit_tree.specs.declared.place.Place.{Place}

-- Node `k` is the root, or at this depth or above, and it is the leaf or above it.
pub record IsOver (outline : List Place) (depth leaf k : ℕ) : Type 0 where
  pub place : Place
  pub found : slice_get outline k ≡ Some place
  pub high : (k ≡ 0) ⊎ (place.depth ≤ depth)
  pub holds : IsTrue (leaf_range place.first place.leaves leaf)

-- The user of a leaf: the last such node. Of the nodes that have a leaf, a later one is one deeper;
-- so this is the one at the depth, or the leaf itself if the leaf is above it.
pub record IsUserOf (outline : List Place) (depth leaf k : ℕ) : Type 0 where
  pub over : IsOver outline depth leaf k
  pub last : (n : ℕ) → IsOver outline depth leaf n → n ≤ k

-- a user for each leaf
pub record AreOwners (outline : List Place) (depth : ℕ) (owners : List ℕ) : Type 0 where
  pub each : length owners ≡ length (limits outline).wants
  pub user : (i : ℕ) → i < length owners → IsUserOf outline depth i (slice_index owners i)
