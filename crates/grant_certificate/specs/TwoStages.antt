-- Two trees by which grants that are best by users are found: a tree in which each user is a leaf,
-- and the tree itself with the users' totals as limits.
use Rattle.std.specs.Prelude.{◌≡◌, ℕ, ◌<◌, ◌≤◌, ◌⊎◌, ◌↔◌, List, length, Option, Some, IsTrue, slice_index, slice_get}
use Rattle.limit_tree.specs.Sharing.{LeafSet, Branch, LimitTree, HasNestedBranches, IsBranch, IsInside, IsWithin, IsUnmet, IsBackedBy, IsDeepestFull, sum_over}
use Rattle.limit_tree.specs.Laws.{LaterIsInside}
use Rattle.grant_certificate.specs.Users.{leaves_of, total_of, HasUsers, IsBackedByUsers}

-- Each leaf has at most its want and at least its floor, and each branch that lies within the set
-- has at most its limit.
pub record IsWithinSet (t : LimitTree) (set : LeafSet) (h : List ℕ) : Type 0 where
  pub leaves : length h ≡ length t.wants
  pub wants : (i : ℕ) → i < length h → slice_index h i ≤ slice_index t.wants i
  pub floors : (i : ℕ) → i < length h → slice_index t.floors i ≤ slice_index h i
  pub limits : (k limit : ℕ) (b : Branch) → IsBranch t k b → IsInside b.holds set
      → b.limit ≡ Some limit → sum_over b.holds h ≤ limit

-- the most that a user's leaves can have together within the branches inside the user
pub record IsMost (t : LimitTree) (owners : List ℕ) (user most : ℕ) : Type 0 where
  pub bound : (h : List ℕ) → IsWithinSet t (leaves_of owners user) h → total_of owners h user ≤ most
  pub some : (h : List ℕ) × IsWithinSet t (leaves_of owners user) h
      × (total_of owners h user ≡ most)

-- branch a over users is branch b over their leaves
pub record IsContraction (users : ℕ) (owners : List ℕ) (b a : Branch) : Type 0 where
  pub limit : a.limit ≡ b.limit
  pub only : (u : ℕ) → IsTrue (a.holds u) → u < users
  pub holds : (u : ℕ) → u < users → IsTrue (a.holds u) ↔ IsInside (leaves_of owners u) b.holds

-- The tree over users: a leaf for each user, with the most that its leaves can have and the sum of
-- their floors; a branch for each branch that holds all leaves of a user and others; no others.
pub record IsOuterOf (t : LimitTree) (users : ℕ) (owners : List ℕ) (o : LimitTree) : Type 0 where
  pub each : length o.wants ≡ users
  pub most : (u : ℕ) → u < users → IsMost t owners u (slice_index o.wants u)
  pub floors : (u : ℕ) → u < users → slice_index o.floors u ≡ total_of owners t.floors u
  pub from : (j : ℕ) (a : Branch) → IsBranch o j a
      → (k : ℕ) × (b : Branch) × IsBranch t k b × IsContraction users owners b a
  pub kept : (k u : ℕ) (b : Branch) → IsBranch t k b → u < users
      → IsInside (leaves_of owners u) b.holds → (IsInside b.holds (leaves_of owners u) → ⊥)
      → (j : ℕ) × (a : Branch) × IsBranch o j a × IsContraction users owners b a

-- the branch of a user's leaves, limited to the user's total
pub record IsUserBranch (owners n : List ℕ) (u : ℕ) (b : Branch) : Type 0 where
  pub limit : b.limit ≡ Some (slice_index n u)
  pub holds : (i : ℕ) → b.holds i ≡ leaves_of owners u i

-- The tree with the users' totals: a branch for each user, limited to the user's total, and each
-- other branch as it is.
pub record IsTightOf (t : LimitTree) (users : ℕ) (owners n : List ℕ) (s : LimitTree) : Type 0 where
  pub wants : s.wants ≡ t.wants
  pub floors : s.floors ≡ t.floors
  pub from : (k : ℕ) (b : Branch) → IsBranch s k b
      → IsBranch t k b ⊎ ((u : ℕ) × (u < users) × IsUserBranch owners n u b)
  pub users_are : (u : ℕ) → u < users
      → (k : ℕ) × (b : Branch) × IsBranch s k b × IsUserBranch owners n u b
  pub kept : (k : ℕ) (b : Branch) → IsBranch t k b
      → IsBranch s k b ⊎ ((u : ℕ) × (u < users) × ((i : ℕ) → b.holds i ≡ leaves_of owners u i))

-- the entry of each unmet leaf is its deepest full branch
abbrev pub AreDeepestEntries : LimitTree → List ℕ → List (Option ℕ) → Type 0
AreDeepestEntries s g c =
    (i : ℕ) → i < length g → IsUnmet s g i
    → (entry : Option ℕ) × (slice_get c i ≡ Some entry) × IsDeepestFull s g i entry

-- grants of two stages: totals of the first, then grants of the leaves within them
pub record IsTwoStage (t : LimitTree) (users : ℕ) (owners n g : List ℕ) : Type 0 where
  pub outer : LimitTree
  pub tight : LimitTree
  pub outer_entries : List (Option ℕ)
  pub tight_entries : List (Option ℕ)
  pub is_outer : IsOuterOf t users owners outer
  pub is_tight : IsTightOf t users owners n tight
  pub later : LaterIsInside tight
  pub outer_within : IsWithin outer n
  pub outer_backed : IsBackedBy outer n outer_entries
  pub tight_within : IsWithin tight g
  pub tight_backed : IsBackedBy tight g tight_entries
  pub deepest : AreDeepestEntries tight g tight_entries

-- the grants are within the limits, each user has the total of the first stage, and the grants are
-- backed among users
pub record IsFoundByUsers (t : LimitTree) (users : ℕ) (owners n g : List ℕ) : Type 0 where
  pub within : IsWithin t g
  pub totals_are : (u : ℕ) → u < users → total_of owners g u ≡ slice_index n u
  pub certificate : List (Option ℕ)
  pub backed : IsBackedByUsers t owners g certificate

-- Two stages give grants that are backed among users.
abbrev pub TwoStagesAreBacked : Type 0
TwoStagesAreBacked =
    (t : LimitTree) (users : ℕ) (owners n g : List ℕ) → HasNestedBranches t
    → HasUsers t users owners → ((u : ℕ) → u < users → (i : ℕ) × IsTrue (leaves_of owners u i))
    → IsTwoStage t users owners n g → IsFoundByUsers t users owners n g

-- If some certificate backs grants among users, so does that of the deepest full branches.
abbrev pub DeepestIsBacked : Type 0
DeepestIsBacked =
    (t : LimitTree) (users : ℕ) (owners g : List ℕ) (c d : List (Option ℕ)) → LaterIsInside t
    → HasUsers t users owners → length g ≡ length t.wants → IsBackedByUsers t owners g c
    → length d ≡ length t.wants → AreDeepestEntries t g d → IsBackedByUsers t owners g d
