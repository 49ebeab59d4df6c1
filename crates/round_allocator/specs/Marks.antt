-- The last full branch above each leaf, among the first nodes.
use Rattle.std.specs.Prelude.{◌≡◌, ℕ, ◌<◌, ◌≤◌, List, length, Option, Some, None, slice_get}
use Rattle.limit_tree.specs.Sharing.{LimitTree, IsFullAbove, IsDeepestFull}

-- the last full branch that holds leaf i, among those with numbers below n
abbrev pub IsLastFull : LimitTree → List ℕ → ℕ → ℕ → Option ℕ → Type 0
IsLastFull t g n i None = (k : ℕ) → k < n → IsFullAbove t g i k → ⊥
IsLastFull t g n i (Some k) = IsFullAbove t g i k × ((m : ℕ) → m < n → IsFullAbove t g i m → m ≤ k)

-- the mark of leaf i is that branch
abbrev pub HasMark : LimitTree → List ℕ → ℕ → ℕ → List (Option ℕ) → Type 0
HasMark t g n i marks =
    (mark : Option ℕ) × (slice_get marks i ≡ Some mark) × IsLastFull t g n i mark

-- each leaf is marked with the last full branch above it
pub record AreDeepest (t : LimitTree) (g : List ℕ) (marks : List (Option ℕ)) : Type 0 where
  pub size : length marks ≡ length g
  pub deepest : (i : ℕ) → i < length g
      → (mark : Option ℕ) × (slice_get marks i ≡ Some mark) × IsDeepestFull t g i mark
