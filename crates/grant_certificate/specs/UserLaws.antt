-- Laws of sharing among users.
use Rattle.std.specs.Prelude.{ℕ, ◌≤◌, ◌↔◌, Option, List, length, sum_by, min}
use Rattle.limit_tree.specs.Sharing.{LimitTree, HasNestedBranches, IsWithin, IsBest}
use Rattle.grant_certificate.specs.Users.{tabulate, totals, HasUsers, IsBestByUsers, IsBackedByUsers}

-- Grants that are backed among users are best by users.
abbrev pub BackedByUsersIsBest : Type 0
BackedByUsersIsBest =
    (t : LimitTree) (users : ℕ) (owners g : List ℕ) (c : List (Option ℕ)) → HasNestedBranches t
    → HasUsers t users owners → IsWithin t g → IsBackedByUsers t owners g c
    → IsBestByUsers t users owners g

-- For grants backed among users, the sum of what each user has up to a level is the largest
-- possible, at every level.
abbrev pub UsersHaveLargestAtEachLevel : Type 0
UsersHaveLargestAtEachLevel =
    (t : LimitTree) (users : ℕ) (owners g : List ℕ) (c : List (Option ℕ)) → HasNestedBranches t
    → HasUsers t users owners → IsWithin t g → IsBackedByUsers t owners g c →
    (h : List ℕ) (level : ℕ) → IsWithin t h
    → sum_by (λ x. min x level) (totals users owners h)
    ≤ sum_by (λ x. min x level) (totals users owners g)

-- If each leaf is a user of its own, best by users means best.
abbrev pub OneLeafEachIsBest : Type 0
OneLeafEachIsBest =
    (t : LimitTree) (g : List ℕ) →
    IsBestByUsers t (length t.wants) (tabulate (length t.wants) (λ i. i)) g ↔ IsBest t g
