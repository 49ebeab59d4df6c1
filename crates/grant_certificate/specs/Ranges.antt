-- Properties of a range of leaves.
use Rattle.std.specs.Prelude.{◌≡◌, ℕ, ◌+◌, ◌<◌, ◌≤◌, ◌⊎◌, ◌↔◌, List, Bool, true, false, Option, Some, IsTrue, slice_get, slice_index}
use Rattle.std.proofs.Common.{get_or}
use Rattle.limit_tree.specs.Sharing.{Branch, LimitTree, IsBranch, IsFull, sum_over}
use Rattle.limit_tree.specs.Outline.{leaf_range, branch_of}
use Rattle.limit_tree.specs.declared.place.Place.{Place}

-- the node is a branch whose leaves have more than its limit
abbrev pub IsOverPlace : Place → List ℕ → Type 0
IsOverPlace p g =
    (b : Branch) × (most : ℕ) × (branch_of p.kind p.first p.leaves ≡ Some b) × (b.limit ≡ Some most)
    × (most < sum_over b.holds g)

-- the grant of leaf j is at most `most`, or is j's floor
abbrev pub IsAtMostOrFloor : List ℕ → List ℕ → ℕ → ℕ → Type 0
IsAtMostOrFloor g floors most j =
    (slice_index g j ≤ most) ⊎ (slice_index g j ≡ slice_index floors j)

-- the grant of leaf j does not exceed `grant` by two or more, or is j's floor
abbrev pub IsNear : List ℕ → List ℕ → ℕ → ℕ → Type 0
IsNear g floors grant j = (slice_index g j < grant + 2) ⊎ (slice_index g j ≡ slice_index floors j)

-- the grant of leaf j exceeds `grant` by two or more, and is not j's floor
abbrev pub IsGreater : List ℕ → List ℕ → ℕ → ℕ → Type 0
IsGreater g floors grant j =
    (grant + 2 ≤ slice_index g j) × (slice_index g j ≡ slice_index floors j → ⊥)

-- no grant in the range exceeds `grant` by two or more, unless it is its leaf's floor
abbrev pub IsNoneGreater : ℕ → ℕ → List ℕ → List ℕ → ℕ → Type 0
IsNoneGreater first leaves g floors grant =
    (j : ℕ) → IsTrue (leaf_range first leaves j) → IsNear g floors grant j

-- the first leaf of the range whose grant exceeds `grant` by two or more, and is not its floor
abbrev pub IsFirstGreater : ℕ → ℕ → List ℕ → List ℕ → ℕ → ℕ → Type 0
IsFirstGreater first leaves g floors grant leaf =
    IsTrue (leaf_range first leaves leaf) × IsGreater g floors grant leaf ×
    ((j : ℕ) → j < leaf → IsTrue (leaf_range first leaves j) → IsNear g floors grant j)

-- The greatest grant in a range that is not its leaf's floor; 0 if there is none.
pub record IsGreatest (first leaves : ℕ) (g floors : List ℕ) (most : ℕ) : Type 0 where
  pub above : (j : ℕ) → IsTrue (leaf_range first leaves j) → IsAtMostOrFloor g floors most j
  pub one : (most ≡ 0)
      ⊎ ((j : ℕ) × IsTrue (leaf_range first leaves j) × (slice_index g j ≡ most)
      × (slice_index g j ≡ slice_index floors j → ⊥))

-- the mark of leaf i is set
abbrev pub IsMarked : List Bool → ℕ → Type 0
IsMarked marks i = get_or marks i false ≡ true

-- The entry of leaf i is `number`, and the leaf lies in a range in which no grant is too great
-- compared with its own.
pub record IsHeldWithin (number first leaves : ℕ) (g floors : List ℕ) (c : List (Option ℕ))
    (i : ℕ) : Type 0 where
  pub named : slice_get c i ≡ Some (Some number)
  pub holds : IsTrue (leaf_range first leaves i)
  pub greatest : (j : ℕ) → IsTrue (leaf_range first leaves j) → IsNear g floors (slice_index g i) j

-- the entry of leaf i is the number of a bottleneck
pub record IsHeld (t : LimitTree) (g floors : List ℕ) (c : List (Option ℕ)) (i : ℕ) : Type 0 where
  pub node : ℕ
  pub branch : Branch
  pub named : slice_get c i ≡ Some (Some node)
  pub is : IsBranch t node branch
  pub full : IsFull branch g
  pub holds : IsTrue (branch.holds i)
  pub greatest : (j : ℕ) → IsTrue (branch.holds j) → IsNear g floors (slice_index g i) j

-- the leaves whose entries are numbers of bottlenecks are marked, and no others
abbrev pub AreHeld : LimitTree → List ℕ → List ℕ → List (Option ℕ) → List Bool → Type 0
AreHeld t g floors c marks = (i : ℕ) → IsMarked marks i ↔ IsHeld t g floors c i
