-- Trees of the same shape, with other limits, wants and floors.
use Rattle.std.specs.Prelude.{◌≡◌, ℕ, List, [], ◌∷◌, ◌++◌, length, map, take, slice_get, Some, None}
use Rattle.limit_tree.specs.declared.place.NodeKind.{NodeKind}
use Rattle.limit_tree.specs.declared.place.Place.{Place}
use Rattle.limit_tree.specs.declared.node.Node.{Node}
use Rattle.limit_tree.specs.Sharing.{sum_over}
use Rattle.limit_tree.specs.Outline.{is_leaf_kind, beside, branch_over, deeper, leaf_alone, leaf_range, limits, places}
use Rattle.limit_tree.specs.Depths.{HaveDepths}
use Rattle.limit_tree.specs.Faults.{tree_fault}
use Rattle.limit_tree.specs.Flat.{IsShaped}
use Rattle.limit_tree.specs.declared.place.NodeKind.TheVariants.{Branch, Leaf}

-- a leaf for each leaf, and a branch for each branch
pub record HasKinds (outline : List Place) (kinds : List NodeKind) : Type 0 where
  pub nodes : length kinds ≡ length outline
  pub alike : (k : ℕ) (p : Place) (kind : NodeKind) → slice_get outline k ≡ Some p
      → slice_get kinds k ≡ Some kind → is_leaf_kind kind ≡ is_leaf_kind p.kind

-- a node's kind, and its numbers of leaves and of kids
pub record Shape : Type 0 where
  pub kind : NodeKind
  pub leaves : ℕ
  pub kids : ℕ

abbrev pub shape_of : Place → Shape
shape_of p = record { kind = p.kind; leaves = p.leaves; kids = p.kids }

abbrev pub shapes : List Place → List Shape
shapes ps = map shape_of ps

-- the shapes of nodes of other kinds
abbrev pub reshaped : List Place → List NodeKind → List Shape
reshaped [] kinds = []
reshaped (p ∷ ps) [] = []
reshaped (p ∷ ps) (kind ∷ kinds) =
    record { kind = kind; leaves = p.leaves; kids = p.kids } ∷ reshaped ps kinds

-- the nodes of trees side by side
abbrev pub nodes_of : {A : Type 0} → List (Node A) → List Place
nodes_of trees = beside (map places trees)

-- the nodes of a tree whose root has a kind, over trees
abbrev pub node_places : {A : Type 0} → NodeKind → List (Node A) → List Place
node_places (Leaf want floor) kids = leaf_alone want floor ∷ []
node_places (Branch limit) kids =
    branch_over limit (length kids) (nodes_of kids) ∷ map deeper (nodes_of kids)

-- the trees have the shapes of the nodes from number `first` up to number `last`
abbrev pub AreReshaped : {A : Type 0} → List Place → List NodeKind → ℕ → ℕ → List (Node A)
    → Type 0
AreReshaped outline kinds first last trees =
    take first (reshaped outline kinds) ++ shapes (nodes_of trees)
    ≡ take last (reshaped outline kinds)

-- The nodes of a tree have these kinds, the leaves and depths of the nodes of another, and the
-- floors of their leaves.
pub record IsReshaped (outline : List Place) (kinds : List NodeKind)
    (tree : List Place) : Type 0 where
  pub nodes : length tree ≡ length outline
  pub shaped : IsShaped tree
  pub each : (k : ℕ) (p : Place) → slice_get outline k ≡ Some p
      → (q : Place) × (slice_get tree k ≡ Some q) × (slice_get kinds k ≡ Some q.kind)
      × (q.first ≡ p.first) × (q.leaves ≡ p.leaves) × (q.depth ≡ p.depth)
  pub floors : (k : ℕ) (q : Place) → slice_get tree k ≡ Some q
      → q.floors ≡ sum_over (leaf_range q.first q.leaves) (limits tree).floors

-- The numbers of a tree's nodes have no fault, and they have the depths of a tree.
pub record IsSoundOutline (outline : List Place) : Type 0 where
  pub sound : tree_fault outline ≡ None
  pub depths : HaveDepths outline

-- A tree with nodes of these kinds has no fault.
abbrev pub AreSoundKinds : List Place → List NodeKind → Type 0
AreSoundKinds outline kinds =
    (tree : List Place) → IsReshaped outline kinds tree → tree_fault tree ≡ None
