-- Which leaves the remainders of whole octets fall to: of leaves side by side, the first.
use Rattle.std.specs.Prelude.{◌≡◌, ℕ, ◌<◌, ◌≤◌, ◌⊎◌, false, List, length, slice_index, IsTrue}
use Rattle.limit_tree.specs.Sharing.{Branch, LimitTree, IsBranch, IsUnmet, IsFull}
use Rattle.grant_certificate.specs.Equals.{AreBeside}

-- some full branch holds leaf i and not leaf j
abbrev pub IsHeldApart : LimitTree → List ℕ → ℕ → ℕ → Type 0
IsHeldApart t g i j = (k : ℕ) × (b : Branch) × IsBranch t k b × IsTrue (b.holds i)
    × (b.holds j ≡ false) × IsFull b g

-- Of two leaves side by side the one with the higher number has no more than the other, if that is
-- unmet, unless it has its floor, or a limit of its own holds the other back.
abbrev pub GivesInOrder : LimitTree → List ℕ → Type 0
GivesInOrder t g = (i j : ℕ) → i < j → j < length g → AreBeside t i j → IsUnmet t g i
    → (slice_index g j ≤ slice_index g i)
    ⊎ ((slice_index g j ≤ slice_index t.floors j) ⊎ IsHeldApart t g i j)
