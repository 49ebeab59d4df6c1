-- Max-min fair sharing of whole octets among users, and then among the leaves of each user.
use Rattle.std.specs.Prelude.{◌≡◌, ℕ, zero, suc, ◌+◌, ◌<◌, ◌&&◌, nat_eq, nat_lt, if◌then◌else◌, ◌⊎◌, List, [], ◌∷◌, length, Option, Some, IsTrue, slice_index, slice_get}
use Rattle.limit_tree.specs.Sharing.{LeafSet, Branch, LimitTree, IsBranch, IsInside, IsNested, IsWithin, IsAscending, IsGreater, IsFull, IsUnmet, IsNotTooGreat, sum_below}

-- f 0, f 1, .., f (n - 1)
abbrev pub tabulate : {X : Type 0} → ℕ → (ℕ → X) → List X
tabulate zero f = []
tabulate (suc n) f = f 0 ∷ tabulate n (λ j. f (suc j))

-- The leaves of a user. `owners` has the number of the user of each leaf.
abbrev pub leaves_of : List ℕ → ℕ → LeafSet
leaves_of owners user i = nat_lt i (length owners) && nat_eq (slice_index owners i) user

-- the sum of the grants of a user's leaves
abbrev pub total_of : List ℕ → List ℕ → ℕ → ℕ
total_of owners g user =
    sum_below (length owners) (λ i. if leaves_of owners user i then slice_index g i else 0)

-- the sums of the grants of the users from 0 to `users` - 1
abbrev pub totals : ℕ → List ℕ → List ℕ → List ℕ
totals users owners g = tabulate users (total_of owners g)

-- Best by users: the grants are within the limits; no other grants within them give the users
-- totals that, sorted upwards, are greater; and no others that give each user the same total are,
-- sorted upwards, greater.
pub record IsBestByUsers (t : LimitTree) (users : ℕ) (owners g : List ℕ) : Type 0 where
  pub within : IsWithin t g
  pub fair : (h sorted_g sorted_h : List ℕ) → IsWithin t h
      → IsAscending (totals users owners g) sorted_g → IsAscending (totals users owners h) sorted_h
      → IsGreater sorted_g sorted_h → ⊥
  pub inside : (h sorted_g sorted_h : List ℕ) → IsWithin t h
      → totals users owners h ≡ totals users owners g → IsAscending g sorted_g
      → IsAscending h sorted_h → IsGreater sorted_g sorted_h → ⊥

-- Each leaf has a user, and each branch lies within the leaves of a user, around them, or apart
-- from them.
pub record HasUsers (t : LimitTree) (users : ℕ) (owners : List ℕ) : Type 0 where
  pub each : length owners ≡ length t.wants
  pub few : (i : ℕ) → i < length owners → slice_index owners i < users
  pub nested : (k user : ℕ) (b : Branch) → IsBranch t k b → IsNested b.holds (leaves_of owners user)

-- The total of user v does not exceed that of user u by two or more, or it is the sum of v's
-- floors.
abbrev pub IsNotTooRich : LimitTree → List ℕ → List ℕ → ℕ → ℕ → Type 0
IsNotTooRich t owners g u v =
    (total_of owners g v < total_of owners g u + 2)
    ⊎ (total_of owners g v ≡ total_of owners t.floors v)

-- A bottleneck within the leaf's user: the branch is full, it holds the leaf and leaves of that
-- user only, and no grant in it is too great compared with that of the leaf.
pub record IsInnerNeck (t : LimitTree) (owners : List ℕ) (b : Branch) (g : List ℕ)
    (i : ℕ) : Type 0 where
  pub full : IsFull b g
  pub holds : IsTrue (b.holds i)
  pub own : IsInside b.holds (leaves_of owners (slice_index owners i))
  pub greatest : (j : ℕ) → IsTrue (b.holds j) → IsNotTooGreat t g i j

-- A bottleneck among users: the branch is full and holds all leaves of the leaf's user; no grant of
-- that user is too great compared with that of the leaf, and no total of a user in the branch is
-- too great compared with that user's.
pub record IsOuterNeck (t : LimitTree) (owners : List ℕ) (b : Branch) (g : List ℕ)
    (i : ℕ) : Type 0 where
  pub full : IsFull b g
  pub all : IsInside (leaves_of owners (slice_index owners i)) b.holds
  pub greatest : (j : ℕ) → IsTrue (leaves_of owners (slice_index owners i) j)
      → IsNotTooGreat t g i j
  pub richest : (v : ℕ) → IsInside (leaves_of owners v) b.holds
      → IsNotTooRich t owners g (slice_index owners i) v

-- Backed by a certificate among users: each unmet leaf has one of these bottlenecks, and the
-- certificate has its number.
pub record IsBackedByUsers (t : LimitTree) (owners g : List ℕ) (c : List (Option ℕ)) : Type 0 where
  pub leaves : length c ≡ length t.wants
  pub backed : (i : ℕ) → i < length g → IsUnmet t g i
      → (k : ℕ) × (b : Branch) × (slice_get c i ≡ Some (Some k)) × IsBranch t k b
      × (IsInnerNeck t owners b g i ⊎ IsOuterNeck t owners b g i)

-- the entry of leaf i is the number of a bottleneck within its user or among users
abbrev pub HasUserNeck : LimitTree → List ℕ → List ℕ → List (Option ℕ) → ℕ → Type 0
HasUserNeck t owners g c i =
    (k : ℕ) × (b : Branch) × (slice_get c i ≡ Some (Some k)) × IsBranch t k b
    × (IsInnerNeck t owners b g i ⊎ IsOuterNeck t owners b g i)
