-- Bottlenecks within a user and among users, as properties of a range of leaves.
use Rattle.std.specs.Prelude.{◌≡◌, ℕ, ◌+◌, ◌<◌, ◌≤◌, ◌⊎◌, Bool, true, false, List, length, slice_index}
use Rattle.grant_certificate.specs.Ranges.{IsNear, IsNoneGreater}
use Rattle.grant_certificate.specs.Users.{total_of}
use Rattle.grant_certificate.specs.declared.flaw.Flaw.TheVariants.{WrongLength, OverWant, OverLimit, UnderFloor}
use Rattle.grant_certificate.specs.declared.flaw.Verdict.{Verdict}
use Rattle.grant_certificate.specs.declared.flaw.Verdict.TheVariants.{Yes, No}

-- the range has leaf i, and leaves of its user only, none with too great a grant
pub record IsInnerRange (owners g floors : List ℕ) (first leaves i : ℕ) : Type 0 where
  pub low : first ≤ i
  pub high : i < first + leaves
  pub own : (j : ℕ) → first ≤ j → j < first + leaves → slice_index owners j ≡ slice_index owners i
  pub greatest : IsNoneGreater first leaves g floors (slice_index g i)

-- the range has all leaves of the user of leaf i, none with too great a grant, and leaves of no
-- user with too great a total
pub record IsOuterRange (owners g floors : List ℕ) (first leaves i : ℕ) : Type 0 where
  pub all : (j : ℕ) → j < length owners → slice_index owners j ≡ slice_index owners i
      → (first ≤ j) × (j < first + leaves)
  pub greatest : (j : ℕ) → j < length owners → slice_index owners j ≡ slice_index owners i
      → IsNear g floors (slice_index g i) j
  pub richest : (j : ℕ) → first ≤ j → j < first + leaves
      → (total_of owners g (slice_index owners j) < total_of owners g (slice_index owners i) + 2)
      ⊎ (total_of owners g (slice_index owners j) ≡ total_of owners floors (slice_index owners j))

-- a table has, for each leaf, the total of its user
abbrev pub AreUserTotals : List ℕ → List ℕ → List ℕ → Type 0
AreUserTotals owners g table =
    (i : ℕ) → i < length owners → slice_index table i ≡ total_of owners g (slice_index owners i)

-- the verdict is that the grants are within the limits, backed or not
abbrev pub tells_within : Verdict → Bool
tells_within Yes = true
tells_within (No WrongLength) = false
tells_within (No (OverWant leaf)) = false
tells_within (No (UnderFloor leaf)) = false
tells_within (No (OverLimit node)) = false
tells_within (No flaw) = true
