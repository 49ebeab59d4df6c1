-- The nodes of a tree in preorder, and the limit tree that they represent.
use Rattle.std.specs.Prelude.{◌≡◌, ℕ, ◌+◌, Bool, true, false, ◌&&◌, nat_le, nat_lt, IsTrue, List, [], ◌∷◌, ◌++◌, map, count_by, length, slice_get, min, max, sum, sum_by, take, drop, Option, Some, None, unwrap_or}
use Rattle.std.specs.List.{filter_map}
use Rattle.std.specs.Option.{option_and_then, option_map}
use Rattle.limit_tree.specs.Sharing.{Branch as SharedBranch, LimitTree, LeafSet, IsFull}
use Rattle.limit_tree.specs.declared.place.NodeKind.{NodeKind}
use Rattle.limit_tree.specs.declared.place.NodeKind.TheVariants.{Branch, Leaf}
use Rattle.limit_tree.specs.declared.place.Place.{Place}
use Rattle.limit_tree.specs.declared.node.Node.{Node}
use Rattle.limit_tree.specs.declared.node.Node.TheOpen.{Node-F}
use Rattle.limit_tree.specs.declared.node.Node.TheOpen.Node-F.{Branch as BranchOf, Leaf as LeafOf}
use Rattle.limit_tree.specs.declared.node.Node.TheFolds.{fold-Node}
use Rattle.limit_tree.specs.declared.node.Node.TheViews.{out-Node}

abbrev pub is_leaf_kind : NodeKind → Bool
is_leaf_kind (Branch limit) = false
is_leaf_kind (Leaf want floor) = true

abbrev pub own_floor : NodeKind → ℕ
own_floor (Branch limit) = 0
own_floor (Leaf want floor) = floor

-- number of leaves among the nodes
abbrev pub leaf_count : List Place → ℕ
leaf_count places = count_by (λ p. is_leaf_kind p.kind) places

-- sum of the floors of the leaves
abbrev pub floor_sum : List Place → ℕ
floor_sum places = sum_by (λ p. own_floor p.kind) places

-- a node one level further down
abbrev pub deeper : Place → Place
deeper p = record p { depth = p.depth + 1 }

-- a node after n more leaves
abbrev pub behind : ℕ → Place → Place
behind n p = record p { first = n + p.first }

-- trees side by side
abbrev pub beside : List (List Place) → List Place
beside [] = []
beside (p ∷ ps) = p ++ map (behind (leaf_count p)) (beside ps)

-- a tree of one leaf
abbrev pub leaf_alone : ℕ → ℕ → Place
leaf_alone want floor =
    record {
      depth = 0;
      first = 0;
      leaves = 1;
      nodes = 1;
      kids = 0;
      floors = floor;
      kind = Leaf want floor;
    }

-- a branch with `kids` kids over the nodes below it
abbrev pub branch_over : Option ℕ → ℕ → List Place → Place
branch_over limit kids below =
    record {
      depth = 0;
      first = 0;
      leaves = leaf_count below;
      nodes = 1 + length below;
      kids = kids;
      floors = floor_sum below;
      kind = Branch limit;
    }

-- the nodes of one tree, from those of the trees below its root
abbrev pub place_step : {A : Type 0} → Node-F A (List Place) → List Place
place_step (LeafOf want floor) = leaf_alone want floor ∷ []
place_step (BranchOf limit kids) =
    branch_over limit (length kids.items) (beside kids.items) ∷ map deeper (beside kids.items)

-- The nodes of a tree in preorder. A node's number is its index in this list.
abbrev pub places : {A : Type 0} → Node A → List Place
places {A} = fold-Node A (List Place) place_step

-- a layer's own kind
abbrev pub layer_kind : {A B : Type 0} → Node-F A B → NodeKind
layer_kind (LeafOf want floor) = Leaf want floor
layer_kind (BranchOf limit kids) = Branch limit

abbrev pub layer_kids : {A B : Type 0} → Node-F A B → List B
layer_kids (LeafOf want floor) = []
layer_kids (BranchOf limit kids) = kids.items

abbrev pub kids_of : {A : Type 0} → Node A → List (Node A)
kids_of {A} n = layer_kids (out-Node A n)

abbrev pub kind_of : {A : Type 0} → Node A → NodeKind
kind_of {A} n = layer_kind (out-Node A n)

-- the root of a tree, at `depth` and after `first` leaves
abbrev pub root_place : {A : Type 0} → ℕ → ℕ → Node A → Place
root_place depth first n =
    record {
      depth = depth;
      first = first;
      leaves = leaf_count (places n);
      nodes = length (places n);
      kids = length (kids_of n);
      floors = floor_sum (places n);
      kind = kind_of n;
    }

-- a node further down, and after more leaves
abbrev pub moved : ℕ → ℕ → Place → Place
moved depth first p = record p { depth = p.depth + depth; first = first + p.first }

abbrev pub leaf_want : NodeKind → Option ℕ
leaf_want (Branch limit) = None
leaf_want (Leaf want floor) = Some want

abbrev pub leaf_floor : NodeKind → Option ℕ
leaf_floor (Branch limit) = None
leaf_floor (Leaf want floor) = Some floor

-- the `leaves` leaves from leaf `first` on
abbrev pub leaf_range : ℕ → ℕ → LeafSet
leaf_range first leaves i = nat_le first i && nat_lt i (first + leaves)

abbrev pub branch_of : NodeKind → ℕ → ℕ → Option SharedBranch
branch_of (Branch limit) first leaves =
    Some (record { limit = limit; holds = leaf_range first leaves })
branch_of (Leaf want floor) first leaves = None

-- the node is a branch, and the branch is full
abbrev pub IsFullPlace : Place → List ℕ → Type 0
IsFullPlace p g = (b : SharedBranch) × (branch_of p.kind p.first p.leaves ≡ Some b) × IsFull b g

-- the node is a full branch that holds the leaf
abbrev pub IsFullOver : Place → List ℕ → ℕ → Type 0
IsFullOver p g i =
    (b : SharedBranch) × (branch_of p.kind p.first p.leaves ≡ Some b) × IsTrue (b.holds i)
    × IsFull b g

-- the limit tree that the nodes represent
abbrev pub limits : List Place → LimitTree
limits outline = record {
  wants = filter_map (λ p. leaf_want p.kind) outline;
  floors = filter_map (λ p. leaf_floor p.kind) outline;
  branch = λ k. option_and_then (λ p. branch_of p.kind p.first p.leaves) (slice_get outline k);
}

-- the leaves of node `k`; a leaf has itself
abbrev pub leaves_under : List Place → ℕ → LeafSet
leaves_under outline k =
    unwrap_or (option_map (λ p. leaf_range p.first p.leaves) (slice_get outline k)) (λ i. false)

-- cuts a number to a limit, if there is one
abbrev pub cut : Option ℕ → ℕ → ℕ
cut None n = n
cut (Some most) n = min n most

-- A preorder list is an expression in Polish notation. Read from its end, the stack has what each
-- tree so far absorbs up to a level: a leaf at most its want and at least its floor, a branch what
-- its kids absorb, cut to its limit.
abbrev pub absorb_step : ℕ → ℕ → NodeKind → List ℕ → List ℕ
absorb_step level kids (Leaf want floor) stack = min want (max floor level) ∷ stack
absorb_step level kids (Branch limit) stack = cut limit (sum (take kids stack)) ∷ drop kids stack

abbrev pub absorb_stack : ℕ → List Place → List ℕ
absorb_stack level [] = []
absorb_stack level (p ∷ ps) = absorb_step level p.kids p.kind (absorb_stack level ps)

abbrev pub first_or_zero : List ℕ → ℕ
first_or_zero [] = 0
first_or_zero (x ∷ xs) = x

-- octets that node `number` absorbs up to a level
abbrev pub absorbed : ℕ → List Place → ℕ → ℕ
absorbed level outline number = first_or_zero (absorb_stack level (drop number outline))
