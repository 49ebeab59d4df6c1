-- The definitions of sharing without floors, as they are usual in the field.
use Rattle.std.specs.Prelude.{◌≡◌, ℕ, ◌+◌, ◌<◌, ◌↔◌, List, length, Option, Some, IsTrue, slice_index, slice_get}
use Rattle.limit_tree.specs.Sharing.{Branch, LimitTree, IsBranch, IsWanted, IsLimited, IsWithin, IsAscending, IsGreater, IsBest, IsFull, IsUnmet, IsBackedBy}

-- all floors are 0
abbrev pub HasNoFloors : LimitTree → Type 0
HasNoFloors t = (i : ℕ) → slice_index t.floors i ≡ 0

-- each leaf has at most its want, and each branch at most its limit, if it has one
pub record IsPlainWithin (t : LimitTree) (g : List ℕ) : Type 0 where
  pub wanted : IsWanted t g
  pub limits : IsLimited t g

-- no grants within the limits, sorted upwards, are greater
pub record IsPlainBest (t : LimitTree) (g : List ℕ) : Type 0 where
  pub within : IsPlainWithin t g
  pub greatest : (h sorted_g sorted_h : List ℕ) → IsPlainWithin t h → IsAscending g sorted_g
      → IsAscending h sorted_h → IsGreater sorted_g sorted_h → ⊥

-- the branch is full and holds leaf i, and no grant in it exceeds that of leaf i by two or more
pub record IsPlainBottleneck (b : Branch) (g : List ℕ) (i : ℕ) : Type 0 where
  pub full : IsFull b g
  pub holds : IsTrue (b.holds i)
  pub greatest : (j : ℕ) → IsTrue (b.holds j) → slice_index g j < slice_index g i + 2

-- each unmet leaf has a bottleneck, whose number the certificate names
pub record IsPlainBackedBy (t : LimitTree) (g : List ℕ) (c : List (Option ℕ)) : Type 0 where
  pub leaves : length c ≡ length t.wants
  pub backed : (i : ℕ) → i < length g → IsUnmet t g i
      → (k : ℕ) × (b : Branch) × (slice_get c i ≡ Some (Some k)) × IsBranch t k b
      × IsPlainBottleneck b g i

-- Without floors, the definitions are the plain ones.
pub record IsPlain (t : LimitTree) (g : List ℕ) : Type 0 where
  pub within : IsWithin t g ↔ IsPlainWithin t g
  pub best : IsBest t g ↔ IsPlainBest t g
  pub backed : (c : List (Option ℕ)) → IsBackedBy t g c ↔ IsPlainBackedBy t g c

abbrev pub NoFloorsIsPlain : Type 0
NoFloorsIsPlain = (t : LimitTree) (g : List ℕ) → HasNoFloors t → IsPlain t g
