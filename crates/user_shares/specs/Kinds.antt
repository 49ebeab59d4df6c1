-- The nodes of the trees of three stages, beside those of the tree itself.
use Rattle.std.specs.Prelude.{◌≡◌, ℕ, ◌<◌, ◌≤◌, true, false, IsTrue, List, length, Option, Some, None, slice_get, slice_index}
use Rattle.limit_tree.specs.Sharing.{IsInside}
use Rattle.limit_tree.specs.Outline.{is_leaf_kind, leaf_range}
use Rattle.limit_tree.specs.declared.place.NodeKind.{NodeKind}
use Rattle.limit_tree.specs.declared.place.NodeKind.TheVariants.{Branch, Leaf}
use Rattle.limit_tree.specs.declared.place.Place.{Place}
use Rattle.grant_certificate.specs.Users.{leaves_of}
use Rattle.user_shares.specs.Stages.{IsHead}

-- the leaves of each user that has one are side by side
abbrev pub HaveRanges : List ℕ → Type 0
HaveRanges owners =
    (i : ℕ) → i < length owners
    → (first : ℕ) × (leaves : ℕ)
    × ((j : ℕ) → leaves_of owners (slice_index owners i) j ≡ leaf_range first leaves j)

-- the node has a leaf, and all its leaves are of one user
pub record IsOwned (owners : List ℕ) (p : Place) : Type 0 where
  pub some : 1 ≤ p.leaves
  pub own : IsInside (leaf_range p.first p.leaves) (leaves_of owners (slice_index owners p.first))

-- a kind for each node, with a relation to the node
pub record AreKinds (outline : List Place) (has : ℕ → Place → NodeKind → Type 0)
    (kinds : List NodeKind) : Type 0 where
  pub nodes : length kinds ≡ length outline
  pub each : (k : ℕ) (p : Place) (kind : NodeKind) → slice_get outline k ≡ Some p
      → slice_get kinds k ≡ Some kind → has k p kind

-- the same for the first nodes
pub record AreKindsBelow (outline : List Place) (has : ℕ → Place → NodeKind → Type 0) (n : ℕ)
    (kinds : List NodeKind) : Type 0 where
  pub nodes : length kinds ≡ n
  pub each : (k : ℕ) (p : Place) (kind : NodeKind) → slice_get outline k ≡ Some p
      → slice_get kinds k ≡ Some kind → has k p kind

-- The tree in which each user gets the most that it can have: branches around users have no limit.
pub record IsInnerKind (owners : List ℕ) (k : ℕ) (p : Place) (kind : NodeKind) : Type 0 where
  pub alike : is_leaf_kind kind ≡ is_leaf_kind p.kind
  pub leaf : is_leaf_kind p.kind ≡ true → kind ≡ p.kind
  pub inner : IsOwned owners p → kind ≡ p.kind
  pub limited : (most : ℕ) → kind ≡ Branch (Some most) → IsOwned owners p × (kind ≡ p.kind)

-- The tree over users: the first leaf of each user has what the user can have, and its floors; its
-- other leaves want nothing; branches inside users have no limit.
pub record IsOuterKind (owners most floors : List ℕ) (k : ℕ) (p : Place)
    (kind : NodeKind) : Type 0 where
  pub alike : is_leaf_kind kind ≡ is_leaf_kind p.kind
  pub head : is_leaf_kind p.kind ≡ true → IsHead owners p.first
      → kind ≡ Leaf (slice_index most (slice_index owners p.first))
      (slice_index floors (slice_index owners p.first))
  pub other : is_leaf_kind p.kind ≡ true → (IsHead owners p.first → ⊥) → kind ≡ Leaf 0 0
  pub around : is_leaf_kind p.kind ≡ false → (IsOwned owners p → ⊥) → kind ≡ p.kind
  pub limited : (most : ℕ) → kind ≡ Branch (Some most)
      → (IsOwned owners p → ⊥) × (kind ≡ p.kind)

-- a branch with this number is that of a user, which has its leaves
abbrev pub KnowsUsers : List ℕ → List ℕ → ℕ → Place → Type 0
KnowsUsers users owners node p =
    (u : ℕ) → u < length users → slice_index users u ≡ node
    → (is_leaf_kind p.kind ≡ false) × (1 ≤ p.leaves) × (slice_index owners p.first ≡ u)

-- The tree with the users' totals: the branch of each user is limited to the user's total.
pub record IsTightKind (users totals : List ℕ) (k : ℕ) (p : Place) (kind : NodeKind) : Type 0 where
  pub alike : is_leaf_kind kind ≡ is_leaf_kind p.kind
  pub user : (u : ℕ) → u < length users → slice_index users u ≡ k
      → kind ≡ Branch (Some (slice_index totals u))
  pub other : ((u : ℕ) → u < length users → slice_index users u ≡ k → ⊥) → kind ≡ p.kind

-- The nodes of a tree have the leaves of those of another, and a relation to them.
pub record AreAlike (outline : List Place) (has : ℕ → Place → NodeKind → Type 0)
    (tree : List Place) : Type 0 where
  pub nodes : length tree ≡ length outline
  pub each : (k : ℕ) (p : Place) → slice_get outline k ≡ Some p
      → (q : Place) × (slice_get tree k ≡ Some q) × has k p q.kind × (q.first ≡ p.first)
      × (q.leaves ≡ p.leaves)
