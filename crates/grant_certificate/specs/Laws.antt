-- Laws of backed grants.
use Rattle.std.specs.Prelude.{ℕ, ◌≤◌, Option, List, sum_by, min}
use Rattle.limit_tree.specs.Sharing.{LimitTree, HasNestedBranches, IsWithin, IsBackedBy, IsAscending, IsBest}
use Rattle.limit_tree.specs.Plain.{HasNoFloors, IsPlainWithin, IsPlainBackedBy, IsPlainBest}

-- For backed grants, the sum of what each leaf has up to a level is the largest possible, at every
-- level.
abbrev pub BackedIsLargestAtEachLevel : Type 0
BackedIsLargestAtEachLevel =
    (t : LimitTree) (g : List ℕ) (c : List (Option ℕ)) → HasNestedBranches t → IsWithin t g
    → IsBackedBy t g c →
    (h : List ℕ) (level : ℕ) → IsWithin t h
    → sum_by (λ x. min x level) h ≤ sum_by (λ x. min x level) g

abbrev pub BackedIsBest : Type 0
BackedIsBest =
    (t : LimitTree) (g : List ℕ) (c : List (Option ℕ)) → HasNestedBranches t → IsWithin t g
    → IsBackedBy t g c → IsBest t g

-- each list of grants can be sorted upwards
abbrev pub EachHasAscending : Type 0
EachHasAscending = (g : List ℕ) → (s : List ℕ) × IsAscending g s

-- the same laws, if there are no floors
abbrev pub PlainBackedIsLargestAtEachLevel : Type 0
PlainBackedIsLargestAtEachLevel =
    (t : LimitTree) (g : List ℕ) (c : List (Option ℕ)) → HasNoFloors t → HasNestedBranches t
    → IsPlainWithin t g → IsPlainBackedBy t g c →
    (h : List ℕ) (level : ℕ) → IsPlainWithin t h
    → sum_by (λ x. min x level) h ≤ sum_by (λ x. min x level) g

abbrev pub PlainBackedIsBest : Type 0
PlainBackedIsBest =
    (t : LimitTree) (g : List ℕ) (c : List (Option ℕ)) → HasNoFloors t → HasNestedBranches t
    → IsPlainWithin t g → IsPlainBackedBy t g c → IsPlainBest t g
