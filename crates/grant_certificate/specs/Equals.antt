-- Equals: leaves side by side under the same limits, and what best grants give them.
use Rattle.std.specs.Prelude.{◌≡◌, ℕ, ◌+◌, ◌<◌, ◌≤◌, ◌⊎◌, false, List, length, slice_index, Some, IsTrue}
use Rattle.limit_tree.specs.Sharing.{Branch, LimitTree, IsBranch, IsUnmet, IsBest}

-- the branch holds no two leaves
abbrev pub HoldsOne : Branch → Type 0
HoldsOne b = (m n : ℕ) → IsTrue (b.holds m) → IsTrue (b.holds n) → m ≡ n

-- Side by side: each branch holds both leaves or neither, or it holds no two leaves.
abbrev pub AreBeside : LimitTree → ℕ → ℕ → Type 0
AreBeside t i j = (k : ℕ) (b : Branch) → IsBranch t k b → (b.holds i ≡ b.holds j) ⊎ HoldsOne b

-- each limit above leaf j, but not above leaf i, is that of a branch above leaf i too
abbrev pub IsLimitedAs : LimitTree → ℕ → ℕ → Type 0
IsLimitedAs t i j =
    (k most : ℕ) (b : Branch) → IsBranch t k b → b.limit ≡ Some most → IsTrue (b.holds j)
    → b.holds i ≡ false
    → (n : ℕ) × (a : Branch) × IsBranch t n a × (a.limit ≡ Some most) × IsTrue (a.holds i)

-- Equals: leaves side by side, under the same limits.
pub record AreEquals (t : LimitTree) (i j : ℕ) : Type 0 where
  pub beside : AreBeside t i j
  pub one : IsLimitedAs t i j
  pub other : IsLimitedAs t j i

-- In best grants an unmet leaf has at most one octet less than its equal, unless that has its
-- floor.
abbrev pub EqualsAreNear : Type 0
EqualsAreNear =
    (t : LimitTree) (g : List ℕ) (i j : ℕ) → IsBest t g → i < length g → j < length g
    → AreEquals t i j → IsUnmet t g j
    → (slice_index g i ≤ slice_index g j + 1) ⊎ (slice_index g i ≤ slice_index t.floors i)
