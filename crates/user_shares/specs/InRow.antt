-- Branches side by side, which together have all leaves of a tree.
use Rattle.std.specs.Prelude.{◌≡◌, ℕ, ◌+◌, ◌<◌, ◌≤◌, false, List, [], ◌∷◌, length, slice_get, slice_index, Some}
use Rattle.limit_tree.specs.Outline.{is_leaf_kind, limits}
use Rattle.limit_tree.specs.declared.place.Place.{Place}

-- Node `k` is a branch with this number of leaves, not 0, and the first of them is leaf `first`.
pub record IsNext (outline : List Place) (k first leaves : ℕ) : Type 0 where
  pub place : Place
  pub found : slice_get outline k ≡ Some place
  pub branch : is_leaf_kind place.kind ≡ false
  pub some : 1 ≤ place.leaves
  pub at : place.first ≡ first
  pub count : place.leaves ≡ leaves

-- The nodes are branches, the leaves of the first begin with this one and those of each other
-- after those of the one before it, and the last leaf of the last is that of the tree.
abbrev pub StandFrom : List Place → ℕ → List ℕ → Type 0
StandFrom outline first [] = first ≡ length (limits outline).wants
StandFrom outline first (k ∷ ks) =
    (leaves : ℕ) × IsNext outline k first leaves × StandFrom outline (first + leaves) ks

-- each leaf of the tree is below just one of these branches, which have the order of their leaves
abbrev pub AreInRow : List Place → List ℕ → Type 0
AreInRow outline users = StandFrom outline 0 users

-- the users of more leaves: those before, and then this user for each of the others
pub record IsGrown (old : List ℕ) (user leaves : ℕ) (new : List ℕ) : Type 0 where
  pub long : length new ≡ length old + leaves
  pub before : (i : ℕ) → i < length old → slice_index new i ≡ slice_index old i
  pub own : (i : ℕ) → length old ≤ i → i < length new → slice_index new i ≡ user
