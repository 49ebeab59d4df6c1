-- Three trees by which grants that are best by users are found: one that gives each user the most
-- that it can have, one in which one leaf of each user wants that much, and the tree itself with
-- the users' totals. They have the branches of the tree itself, by the same numbers.
use Rattle.std.specs.Prelude.{◌≡◌, ℕ, ◌<◌, List, length, Option, Some, IsTrue, slice_index}
use Rattle.limit_tree.specs.Sharing.{Branch, LimitTree, HasNestedBranches, IsBranch, IsInside, IsWithin, IsBackedBy}
use Rattle.limit_tree.specs.Laws.{LaterIsInside}
use Rattle.grant_certificate.specs.Users.{leaves_of, total_of, HasUsers, IsBackedByUsers, IsBestByUsers}
use Rattle.grant_certificate.specs.TwoStages.{IsMost, IsOuterOf, IsTightOf, AreDeepestEntries}

-- the first leaf of its user
abbrev pub IsHead : List ℕ → ℕ → Type 0
IsHead owners i = (j : ℕ) → j < i → IsTrue (leaves_of owners (slice_index owners i) j) → ⊥

-- the branches hold the same leaves
abbrev pub AreSame : Branch → Branch → Type 0
AreSame a b = (i : ℕ) → a.holds i ≡ b.holds i

-- only the branches inside a user have limits
pub record IsInnerTree (t : LimitTree) (owners : List ℕ) (s : LimitTree) : Type 0 where
  pub wants : s.wants ≡ t.wants
  pub floors : s.floors ≡ t.floors
  pub from : (k most : ℕ) (a : Branch) → IsBranch s k a → a.limit ≡ Some most
      → (b : Branch) × IsBranch t k b × (b.limit ≡ Some most) × AreSame a b
      × (u : ℕ) × IsInside b.holds (leaves_of owners u)
  pub kept : (k u i : ℕ) (b : Branch) → IsBranch t k b → IsTrue (b.holds i)
      → IsInside b.holds (leaves_of owners u)
      → (a : Branch) × IsBranch s k a × (a.limit ≡ b.limit) × AreSame a b

-- The first leaf of each user wants what the user can have, and has its floors; no other leaf wants
-- anything; only the branches that are not inside a user have limits.
pub record IsOuterTree (t : LimitTree) (owners most floors : List ℕ) (s : LimitTree) : Type 0 where
  pub leaves : length s.wants ≡ length t.wants
  pub head : (i : ℕ) → i < length t.wants → IsHead owners i
      → (slice_index s.wants i ≡ slice_index most (slice_index owners i))
      × (slice_index s.floors i ≡ slice_index floors (slice_index owners i))
  pub other : (i : ℕ) → i < length t.wants → (IsHead owners i → ⊥) → slice_index s.wants i ≡ 0
  pub from : (k most : ℕ) (a : Branch) → IsBranch s k a → a.limit ≡ Some most
      → (b : Branch) × IsBranch t k b × (b.limit ≡ Some most) × AreSame a b
      × ((u i : ℕ) → IsTrue (b.holds i) → IsInside b.holds (leaves_of owners u) → ⊥)
  pub kept : (k : ℕ) (b : Branch) → IsBranch t k b
      → ((u : ℕ) → IsInside b.holds (leaves_of owners u) → ⊥)
      → (a : Branch) × IsBranch s k a × (a.limit ≡ b.limit) × AreSame a b

-- the totals of the users
pub record AreTotals (users : ℕ) (owners g totals : List ℕ) : Type 0 where
  pub each : length totals ≡ users
  pub sums : (u : ℕ) → u < users → slice_index totals u ≡ total_of owners g u

-- the most that each user can have
pub record AreMost (t : LimitTree) (users : ℕ) (owners tops : List ℕ) : Type 0 where
  pub each : length tops ≡ users
  pub most : (u : ℕ) → u < users → IsMost t owners u (slice_index tops u)

-- the totals of backed grants
pub record AreFound (s : LimitTree) (users : ℕ) (owners totals : List ℕ) : Type 0 where
  pub grants : List ℕ
  pub entries : List (Option ℕ)
  pub within : IsWithin s grants
  pub backed : IsBackedBy s grants entries
  pub sums : AreTotals users owners grants totals

-- totals of users that are backed in a tree over the users
pub record AreOuterTotals (t : LimitTree) (users : ℕ) (owners totals : List ℕ) : Type 0 where
  pub outer : LimitTree
  pub entries : List (Option ℕ)
  pub is_outer : IsOuterOf t users owners outer
  pub within : IsWithin outer totals
  pub backed : IsBackedBy outer totals entries

-- grants that are backed in the tree with the users' totals
pub record AreTightGrants (t : LimitTree) (users : ℕ) (owners totals g : List ℕ) : Type 0 where
  pub tight : LimitTree
  pub entries : List (Option ℕ)
  pub is_tight : IsTightOf t users owners totals tight
  pub later : LaterIsInside tight
  pub within : IsWithin tight g
  pub backed : IsBackedBy tight g entries
  pub deepest : AreDeepestEntries tight g entries

-- each user has a first leaf
abbrev pub HaveHeads : ℕ → List ℕ → Type 0
HaveHeads users owners =
    (u : ℕ) → u < users → (i : ℕ) × IsTrue (leaves_of owners u i) × IsHead owners i

-- within the limits, backed by a certificate among users, and best by users
pub record IsShared (t : LimitTree) (users : ℕ) (owners g : List ℕ)
    (c : List (Option ℕ)) : Type 0 where
  pub within : IsWithin t g
  pub backed : IsBackedByUsers t owners g c
  pub best : IsBestByUsers t users owners g

-- In the first tree backed grants give each user the most that it can have.
abbrev pub InnerGivesMost : Type 0
InnerGivesMost =
    (t s : LimitTree) (users : ℕ) (owners g most : List ℕ) (c : List (Option ℕ))
    → HasNestedBranches s → HasUsers t users owners → IsInnerTree t owners s → IsWithin s g
    → IsBackedBy s g c → AreTotals users owners g most → AreMost t users owners most

-- In the second tree the totals of backed grants are backed over the users.
abbrev pub OuterIsBacked : Type 0
OuterIsBacked =
    (t s : LimitTree) (users : ℕ) (owners most floors g totals : List ℕ) (c : List (Option ℕ))
    → HasNestedBranches t → HasUsers t users owners → HaveHeads users owners
    → AreMost t users owners most → AreTotals users owners t.floors floors
    → IsOuterTree t owners most floors s → IsWithin s g → IsBackedBy s g c
    → AreTotals users owners g totals → AreOuterTotals t users owners totals

-- In the third tree backed grants are backed among users in the tree itself, by the deepest full
-- branches there, and best by users.
abbrev pub TightIsShared : Type 0
TightIsShared =
    (t : LimitTree) (users : ℕ) (owners totals g : List ℕ) (c : List (Option ℕ))
    → HasNestedBranches t → LaterIsInside t → HasUsers t users owners → HaveHeads users owners
    → AreOuterTotals t users owners totals → AreTightGrants t users owners totals g
    → length c ≡ length t.wants → AreDeepestEntries t g c → IsShared t users owners g c
