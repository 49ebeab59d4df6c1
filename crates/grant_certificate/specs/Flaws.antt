-- The first flaw of grants and their certificate.
use Rattle.std.specs.Prelude.{◌≡◌, ℕ, ◌+◌, ◌<◌, ◌≤◌, List, length, Option, Some, None, IsTrue, IsFalse, slice_index, slice_get}
use Rattle.limit_tree.specs.Sharing.{Branch, LimitTree, IsBranch, IsWanted, IsFloored, IsWithin, IsFull, IsUnmet, IsNotTooGreat, IsBottleneck, IsBackedBy, sum_over}
use Rattle.grant_certificate.specs.declared.flaw.Flaw.{Flaw}
use Rattle.grant_certificate.specs.declared.flaw.Flaw.TheVariants.{WrongLength, OverWant, OverLimit, NoNode, NotAbove, NotFull, TooGreat, UnderFloor}
use Rattle.grant_certificate.specs.declared.flaw.Verdict.{Verdict}
use Rattle.grant_certificate.specs.declared.flaw.Verdict.TheVariants.{Yes, No}

-- one grant and one entry for each leaf
abbrev pub HasLengths : LimitTree → List ℕ → List (Option ℕ) → Type 0
HasLengths t g c = (length g ≡ length t.wants) × (length c ≡ length t.wants)

-- branch k has a limit, and its leaves have more than that together
abbrev pub IsOver : LimitTree → List ℕ → ℕ → Type 0
IsOver t g k =
    (b : Branch) × (most : ℕ) × IsBranch t k b × (b.limit ≡ Some most) × (most < sum_over b.holds g)

-- the first branch whose leaves have more than its limit, if there is one
abbrev pub IsFirstOver : LimitTree → List ℕ → Option ℕ → Type 0
IsFirstOver t g None = (k : ℕ) → IsOver t g k → ⊥
IsFirstOver t g (Some node) = IsOver t g node × ((k : ℕ) → k < node → IsOver t g k → ⊥)

-- the entry of leaf i is k, and k is the number of branch b
abbrev pub Names : LimitTree → List (Option ℕ) → ℕ → ℕ → Branch → Type 0
Names t c i k b = (slice_get c i ≡ Some (Some k)) × IsBranch t k b

-- if leaf i is unmet, its entry is the number of a bottleneck
abbrev pub IsBackedAt : LimitTree → List ℕ → List (Option ℕ) → ℕ → Type 0
IsBackedAt t g c i = IsUnmet t g i → (k : ℕ) × (b : Branch) × Names t c i k b × IsBottleneck t b g i

-- the grant of leaf j exceeds that of leaf i by two or more, and is not its floor
abbrev pub IsTooGreat : LimitTree → List ℕ → ℕ → ℕ → Type 0
IsTooGreat t g i j =
    (slice_index g i + 2 ≤ slice_index g j) × (slice_index g j ≡ slice_index t.floors j → ⊥)

-- the first leaf of the branch whose grant is too great compared with that of leaf i
abbrev pub IsFirstTooGreat : LimitTree → Branch → List ℕ → ℕ → ℕ → Type 0
IsFirstTooGreat t b g i j =
    IsTrue (b.holds j) × IsTooGreat t g i j
    × ((n : ℕ) → n < j → IsTrue (b.holds n) → IsNotTooGreat t g i n)

-- the first flaw of the entry of an unmet leaf i
abbrev pub IsLeafFlaw : LimitTree → List ℕ → List (Option ℕ) → ℕ → Flaw → Type 0
IsLeafFlaw t g c i WrongLength = ⊥
IsLeafFlaw t g c i (OverWant leaf) = ⊥
IsLeafFlaw t g c i (UnderFloor leaf) = ⊥
IsLeafFlaw t g c i (OverLimit node) = ⊥
IsLeafFlaw t g c i (NoNode leaf) = (leaf ≡ i) × ((k : ℕ) (b : Branch) → Names t c i k b → ⊥)
IsLeafFlaw t g c i (NotAbove leaf node) =
    (leaf ≡ i) × (b : Branch) × Names t c i node b × IsFalse (b.holds i)
IsLeafFlaw t g c i (NotFull leaf node) =
    (leaf ≡ i) × (b : Branch) × Names t c i node b × IsTrue (b.holds i) × (IsFull b g → ⊥)
IsLeafFlaw t g c i (TooGreat leaf other) =
    (leaf ≡ i) × (k : ℕ) × (b : Branch) × Names t c i k b × IsTrue (b.holds i) × IsFull b g
    × IsFirstTooGreat t b g i other

-- the flaw of the first unmet leaf without a bottleneck
abbrev pub IsFirstUnbacked : LimitTree → List ℕ → List (Option ℕ) → Flaw → Type 0
IsFirstUnbacked t g c flaw =
    (i : ℕ) × (i < length g) × IsUnmet t g i × ((j : ℕ) → j < i → IsBackedAt t g c j)
    × IsLeafFlaw t g c i flaw

-- The first flaw: wrong lengths, then the first leaf above its want, then the first leaf below its
-- floor, then the first branch above its limit, then the first unmet leaf without a bottleneck.
abbrev pub IsFirstFlaw : LimitTree → List ℕ → List (Option ℕ) → Flaw → Type 0
IsFirstFlaw t g c WrongLength = HasLengths t g c → ⊥
IsFirstFlaw t g c (OverWant leaf) =
    HasLengths t g c × (leaf < length g) × (slice_index t.wants leaf < slice_index g leaf) ×
    ((j : ℕ) → j < leaf → slice_index g j ≤ slice_index t.wants j)
IsFirstFlaw t g c (UnderFloor leaf) =
    HasLengths t g c × IsWanted t g × (leaf < length g)
    × (slice_index g leaf < slice_index t.floors leaf) ×
    ((j : ℕ) → j < leaf → slice_index t.floors j ≤ slice_index g j)
IsFirstFlaw t g c (OverLimit node) =
    HasLengths t g c × IsWanted t g × IsFloored t g × IsOver t g node
    × ((k : ℕ) → k < node → IsOver t g k → ⊥)
IsFirstFlaw t g c flaw = HasLengths t g c × IsWithin t g × IsFirstUnbacked t g c flaw

-- yes if the grants are within the limits and backed; otherwise no, with the first flaw
abbrev pub IsVerdict : LimitTree → List ℕ → List (Option ℕ) → Verdict → Type 0
IsVerdict t g c Yes = IsWithin t g × IsBackedBy t g c
IsVerdict t g c (No flaw) = IsFirstFlaw t g c flaw
