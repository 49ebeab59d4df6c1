-- The shape of a tree's nodes in preorder, and what trees side by side absorb.
use Rattle.std.specs.Prelude.{◌≡◌, ℕ, zero, suc, ◌+◌, ◌*◌, ◌<◌, ◌≤◌, List, length, slice_get, slice_index, sum, take, drop, Some, Option, unwrap_or}
use Rattle.std.specs.Option.{option_map}
use Rattle.limit_tree.specs.Sharing.{IsLimitTree}
use Rattle.limit_tree.specs.Outline.{leaf_count, limits, absorb_stack}
use Rattle.limit_tree.specs.Laws.{LaterIsInside}
use Rattle.limit_tree.specs.declared.place.NodeKind.TheVariants.{Branch, Leaf}
use Rattle.limit_tree.specs.declared.place.Place.{Place}
use Rattle.limit_tree.specs.declared.bounds.TheConstants.{MAX_NODES, MAX_LEAVES, MAX_WANT}

-- sum of the octets that `trees` trees side by side, the first of them at node `at`, absorb up to
-- `level`
abbrev pub taken_in : ℕ → List Place → ℕ → ℕ → ℕ
taken_in level outline at trees = sum (take trees (absorb_stack level (drop at outline)))

-- sum of the octets that the kids of a node absorb up to `level`
abbrev pub taken_below : ℕ → List Place → ℕ → ℕ
taken_below level outline node =
    taken_in level outline (node + 1)
    (unwrap_or (option_map (λ p. p.kids) (slice_get outline node)) 0)

-- A row of trees side by side: the first begins at node `at` and leaf `first`; the node after the
-- last is `last`, and the leaf after the last is `past`.
abbrev pub IsRow : List Place → ℕ → ℕ → ℕ → ℕ → ℕ → Type 0
IsRow outline at first zero last past = (at ≡ last) × (first ≡ past)
IsRow outline at first (suc trees) last past =
    (p : Place) × (slice_get outline at ≡ Some p) × (p.first ≡ first)
    × IsRow outline (at + p.nodes) (first + p.leaves) trees last past

-- the same, for some end
abbrev pub HasRow : List Place → ℕ → ℕ → Type 0
HasRow outline at trees =
    (first : ℕ) × (last : ℕ) × (past : ℕ) × IsRow outline at first trees last past

-- The tree of node `k`: a leaf is one node, and the trees of a branch's kids are all the nodes
-- below it.
pub record IsTreeAt (outline : List Place) (k : ℕ) (p : Place) : Type 0 where
  pub some : 1 ≤ p.nodes
  pub inside : k + p.nodes ≤ length outline
  pub first : p.first ≡ leaf_count (take k outline)
  pub leaf : (want floor : ℕ) → p.kind ≡ Leaf want floor
      → (p.nodes ≡ 1) × (p.leaves ≡ 1) × (p.kids ≡ 0)
  pub branch : (limit : Option ℕ) → p.kind ≡ Branch limit
      → IsRow outline (k + 1) p.first p.kids (k + p.nodes) (p.first + p.leaves)

abbrev pub IsShaped : List Place → Type 0
IsShaped outline = (k : ℕ) (p : Place) → slice_get outline k ≡ Some p → IsTreeAt outline k p

-- The properties of the nodes of a tree without a fault.
pub record IsFlat (outline : List Place) : Type 0 where
  pub shaped : IsShaped outline
  pub root : IsRow outline 0 0 1 (length outline) (length (limits outline).wants)
  pub few_nodes : length outline ≤ MAX_NODES
  pub few_leaves : length (limits outline).wants ≤ MAX_LEAVES
  pub few_octets : sum (limits outline).wants ≤ length (limits outline).wants * MAX_WANT
  pub few_each : (i : ℕ) → i < length (limits outline).wants
      → slice_index (limits outline).wants i ≤ MAX_WANT
  pub bounded : (k : ℕ) (p : Place) → slice_get outline k ≡ Some p
      → p.first + p.leaves ≤ length (limits outline).wants
  pub limit_tree : IsLimitTree (limits outline)
  pub later : LaterIsInside (limits outline)
