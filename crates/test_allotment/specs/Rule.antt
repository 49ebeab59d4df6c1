-- The rule of sharing octet by octet: from the floors on, the next octet goes to the leaf with the
-- smallest grant among those with room, the lowest leaf number first, until no leaf has room.
use Rattle.std.specs.Prelude.{◌≡◌, ℕ, zero, suc, ◌+◌, ◌<◌, ◌≤◌, List, length, slice_index}
use Rattle.std.proofs.Math.ListN.{set}
use Rattle.limit_tree.specs.Sharing.{LimitTree, HasRoom}
use Rattle.round_allocator.specs.Rounds.{IsExhausted}

-- leaf k has room, its grant is the smallest among leaves with room, and it has the lowest number
-- among those with that grant
pub record IsNext (t : LimitTree) (g : List ℕ) (k : ℕ) : Type 0 where
  pub inside : k < length g
  pub room : HasRoom t g k
  pub least : (i : ℕ) → HasRoom t g i → slice_index g k ≤ slice_index g i
  pub first : (i : ℕ) → i < k → HasRoom t g i → slice_index g k < slice_index g i

-- one more octet for leaf k
abbrev pub give : List ℕ → ℕ → List ℕ
give g k = set g k (slice_index g k + 1)

-- this many octets were given, each to the leaf that was next
abbrev pub IsGiven : LimitTree → ℕ → List ℕ → Type 0
IsGiven t zero g = g ≡ t.floors
IsGiven t (suc n) g = (h : List ℕ) × (k : ℕ) × IsGiven t n h × IsNext t h k × (g ≡ give h k)

-- a complete run of the rule: with its last grants no leaf has room
pub record IsRun (t : LimitTree) (g : List ℕ) : Type 0 where
  pub octets : ℕ
  pub given : IsGiven t octets g
  pub exhausted : IsExhausted t g

-- two complete runs end with the same grants
abbrev pub RunsEndAlike : Type 0
RunsEndAlike = (t : LimitTree) (g h : List ℕ) → IsRun t g → IsRun t h → g ≡ h
