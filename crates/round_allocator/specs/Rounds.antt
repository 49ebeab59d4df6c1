-- Properties of an allotment.
use Rattle.std.specs.Prelude.{◌≡◌, ℕ, ◌<◌, List, length, Option, Some, None, slice_get}
use Rattle.limit_tree.specs.Sharing.{Branch, LimitTree, IsBranch, HasRoom, IsUnmet, IsBottleneck, IsDeepestFull}

-- no leaf has room
abbrev pub IsExhausted : LimitTree → List ℕ → Type 0
IsExhausted t g = (i : ℕ) → HasRoom t g i → ⊥

-- each unmet leaf has a bottleneck
abbrev pub HasBottlenecks : LimitTree → List ℕ → Type 0
HasBottlenecks t g =
    (i : ℕ) → IsUnmet t g i → (k : ℕ) × (b : Branch) × IsBranch t k b × IsBottleneck t b g i

-- the entry of an unmet leaf is its last full branch; that of any other leaf is none
pub record IsEntry (t : LimitTree) (g : List ℕ) (i : ℕ) (entry : Option ℕ) : Type 0 where
  pub unmet : IsUnmet t g i → IsDeepestFull t g i entry
  pub met : (IsUnmet t g i → ⊥) → entry ≡ None

-- an entry for each leaf
pub record IsNamed (t : LimitTree) (g : List ℕ) (c : List (Option ℕ)) : Type 0 where
  pub leaves : length c ≡ length g
  pub entries : (i : ℕ) → i < length g
      → (entry : Option ℕ) × (slice_get c i ≡ Some entry) × IsEntry t g i entry
