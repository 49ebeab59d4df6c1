-- Max-min fair sharing of whole octets (Bertsekas and Gallager, Data Networks, second edition,
-- section 6.5), with a guaranteed floor for each leaf. The definitions use sets of leaves and lists
-- of numbers only.
use Rattle.std.specs.Prelude.{◌≡◌, ℕ, ◌+◌, ◌<◌, ◌≤◌, Bool, if◌then◌else◌, ◌⊎◌, List, length, Option, Some, None, IsTrue, slice_index, slice_get, IsPermutation, zero, suc}
use Rattle.std.specs.List.Sorted.{IsNonDecreasing}

-- a set of leaves, as a test of their numbers
abbrev pub LeafSet : Type 0
LeafSet = ℕ → Bool

-- a branch: its limit, if it has one, and the leaves that it holds
pub record Branch : Type 0 where
  pub limit : Option ℕ
  pub holds : LeafSet

-- the wants and floors of the leaves, which are numbered from 0, and the branch of each branch
-- number
pub record LimitTree : Type 0 where
  pub wants : List ℕ
  pub floors : List ℕ
  pub branch : ℕ → Option Branch

-- b is the branch with number k
abbrev pub IsBranch : LimitTree → ℕ → Branch → Type 0
IsBranch t k b = t.branch k ≡ Some b

abbrev pub IsInside : LeafSet → LeafSet → Type 0
IsInside a b = (i : ℕ) → IsTrue (a i) → IsTrue (b i)

abbrev pub IsApart : LeafSet → LeafSet → Type 0
IsApart a b = (i : ℕ) → IsTrue (a i) → IsTrue (b i) → ⊥

abbrev pub IsNested : LeafSet → LeafSet → Type 0
IsNested a b = IsInside a b ⊎ (IsInside b a ⊎ IsApart a b)

-- f 0 + f 1 + .. + f (n - 1)
abbrev pub sum_below : ℕ → (ℕ → ℕ) → ℕ
sum_below zero f = 0
sum_below (suc n) f = sum_below n f + f n

-- the sum of the grants g over a set of leaves
abbrev pub sum_over : LeafSet → List ℕ → ℕ
sum_over set g = sum_below (length g) (λ i. if set i then slice_index g i else 0)

-- one grant for each leaf, at most its want
pub record IsWanted (t : LimitTree) (g : List ℕ) : Type 0 where
  pub leaves : length g ≡ length t.wants
  pub wants : (i : ℕ) → i < length g → slice_index g i ≤ slice_index t.wants i

-- one grant for each leaf, at least its floor
abbrev pub IsFloored : LimitTree → List ℕ → Type 0
IsFloored t g = (i : ℕ) → i < length g → slice_index t.floors i ≤ slice_index g i

-- each branch has at most its limit, if it has one
abbrev pub IsLimited : LimitTree → List ℕ → Type 0
IsLimited t g =
    (k most : ℕ) (b : Branch) → IsBranch t k b → b.limit ≡ Some most → sum_over b.holds g ≤ most

-- Within the limits: each leaf has at most its want and at least its floor, and each branch at most
-- its limit, if it has one.
pub record IsWithin (t : LimitTree) (g : List ℕ) : Type 0 where
  pub wanted : IsWanted t g
  pub floors : IsFloored t g
  pub limits : IsLimited t g

-- Finitely many branches hold leaves of the tree, and any two are nested or disjoint.
pub record HasNestedBranches (t : LimitTree) : Type 0 where
  pub numbers : ℕ
  pub finite : (k : ℕ) → numbers ≤ k → t.branch k ≡ None
  pub leaves : (k i : ℕ) (b : Branch) → IsBranch t k b → IsTrue (b.holds i) → i < length t.wants
  pub nested : (j k : ℕ) (a b : Branch) → IsBranch t j a → IsBranch t k b → IsNested a.holds b.holds

-- the branches are nested, and the tree's own floors are within its limits
pub record IsLimitTree (t : LimitTree) : Type 0 where
  pub branches : HasNestedBranches t
  pub floors : IsWithin t t.floors

-- s has the numbers of g in ascending order
abbrev pub IsAscending : List ℕ → List ℕ → Type 0
IsAscending g s = IsPermutation g s × IsNonDecreasing s

-- the lists have equal length, and at the first index where they differ, b has the larger number
pub record IsGreater (a b : List ℕ) : Type 0 where
  pub lengths : length b ≡ length a
  pub place : ℕ
  pub within : place < length a
  pub before : (j : ℕ) → j < place → slice_index b j ≡ slice_index a j
  pub larger : slice_index a place < slice_index b place

-- Best (leximin): the grants are within the limits, and no other grants within them, sorted
-- upwards, are greater.
pub record IsBest (t : LimitTree) (g : List ℕ) : Type 0 where
  pub within : IsWithin t g
  pub greatest : (h sorted_g sorted_h : List ℕ) → IsWithin t h → IsAscending g sorted_g
      → IsAscending h sorted_h → IsGreater sorted_g sorted_h → ⊥

-- the branch has a limit, and the grants of its leaves add up to it
abbrev pub IsFull : Branch → List ℕ → Type 0
IsFull b g = b.limit ≡ Some (sum_over b.holds g)

-- leaf i has less than it wants
abbrev pub IsUnmet : LimitTree → List ℕ → ℕ → Type 0
IsUnmet t g i = slice_index g i < slice_index t.wants i

-- branch k is full and holds the leaf
abbrev pub IsFullAbove : LimitTree → List ℕ → ℕ → ℕ → Type 0
IsFullAbove t g i k = (b : Branch) × IsBranch t k b × IsTrue (b.holds i) × IsFull b g

-- leaf i has less than it wants, and no full branch holds it
abbrev pub HasRoom : LimitTree → List ℕ → ℕ → Type 0
HasRoom t g i = IsUnmet t g i × ((k : ℕ) → IsFullAbove t g i k → ⊥)

-- the full branch with the largest number that holds leaf i, if there is one
abbrev pub IsDeepestFull : LimitTree → List ℕ → ℕ → Option ℕ → Type 0
IsDeepestFull t g i None = (k : ℕ) → IsFullAbove t g i k → ⊥
IsDeepestFull t g i (Some k) = IsFullAbove t g i k × ((n : ℕ) → IsFullAbove t g i n → n ≤ k)

-- The grant of leaf j does not exceed that of leaf i by two or more, or it is at most j's floor.
abbrev pub IsNotTooGreat : LimitTree → List ℕ → ℕ → ℕ → Type 0
IsNotTooGreat t g i j =
    (slice_index g j < slice_index g i + 2) ⊎ (slice_index g j ≡ slice_index t.floors j)

-- A bottleneck of leaf i: the branch is full and holds the leaf, and no grant in it is too great
-- compared with that of the leaf.
pub record IsBottleneck (t : LimitTree) (b : Branch) (g : List ℕ) (i : ℕ) : Type 0 where
  pub full : IsFull b g
  pub holds : IsTrue (b.holds i)
  pub greatest : (j : ℕ) → IsTrue (b.holds j) → IsNotTooGreat t g i j

-- Backed by a certificate c: each unmet leaf has a bottleneck, and c has its number.
pub record IsBackedBy (t : LimitTree) (g : List ℕ) (c : List (Option ℕ)) : Type 0 where
  pub leaves : length c ≡ length t.wants
  pub backed : (i : ℕ) → i < length g → IsUnmet t g i
      → (k : ℕ) × (b : Branch) × (slice_get c i ≡ Some (Some k)) × IsBranch t k b
      × IsBottleneck t b g i
