-- The next leaf to get an octet, among the first leaves.
use Rattle.std.specs.Prelude.{◌≡◌, ℕ, ◌<◌, ◌≤◌, ◌⊎◌, List, Option, Some, None, slice_index}
use Rattle.limit_tree.specs.Sharing.{LimitTree, HasRoom}

-- of two leaves, the one with the lower grant, or the first if the grants are equal
abbrev pub IsBetter : List ℕ → ℕ → ℕ → ℕ → Type 0
IsBetter g k i best =
    ((slice_index g i < slice_index g k) × (best ≡ i))
    ⊎ ((slice_index g k ≤ slice_index g i) × (best ≡ k))

-- leaf k has room, its grant is the smallest among leaves with room below n, and it has the lowest
-- number among those with that grant
pub record IsNextBelow (t : LimitTree) (g : List ℕ) (n k : ℕ) : Type 0 where
  pub below : k < n
  pub room : HasRoom t g k
  pub least : (i : ℕ) → i < n → HasRoom t g i → slice_index g k ≤ slice_index g i
  pub first : (i : ℕ) → i < k → HasRoom t g i → slice_index g k < slice_index g i

-- the next leaf to get an octet among those below n, if any of them has room
abbrev pub IsBestBelow : LimitTree → List ℕ → ℕ → Option ℕ → Type 0
IsBestBelow t g n None = (i : ℕ) → i < n → HasRoom t g i → ⊥
IsBestBelow t g n (Some k) = IsNextBelow t g n k
