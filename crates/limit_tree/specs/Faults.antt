-- The bounds of a tree's numbers, and the first fault of a tree that breaks one.
use Rattle.std.specs.Prelude.{◌≡◌, ℕ, ◌+◌, ◌*◌, ◌≤◌, length, slice_get, sum, ◌&&◌, ◌||◌, nat_le, nat_lt, if◌then◌else◌, List, [], ◌∷◌, Option, Some, None}
use Rattle.std.specs.Option.{option_map}
use Rattle.limit_tree.specs.Sharing.{IsLimitTree}
use Rattle.limit_tree.specs.Outline.{is_leaf_kind, leaf_count, limits}
use Rattle.limit_tree.specs.Laws.{LaterIsInside}
use Rattle.limit_tree.specs.declared.place.NodeKind.{NodeKind}
use Rattle.limit_tree.specs.declared.place.NodeKind.TheVariants.{Branch, Leaf}
use Rattle.limit_tree.specs.declared.place.Place.{Place}
use Rattle.limit_tree.specs.declared.bounds.TheConstants.{MAX_DEPTH, MAX_NODES, MAX_LEAVES, MAX_WANT, MAX_LIMIT}
use Rattle.limit_tree.specs.declared.fault.TreeFault.{TreeFault}
use Rattle.limit_tree.specs.declared.fault.TreeFault.TheVariants.{TooDeep, TooManyLeaves, WantTooLarge, LimitTooLarge, FloorTooLarge, FloorsOverLimit}

-- the first of two options that is present
abbrev pub or_else : {X : Type 0} → Option X → Option X → Option X
or_else None next = next
or_else (Some first) next = Some first

-- the fault of a node's own numbers
abbrev pub kind_fault : NodeKind → Option TreeFault
kind_fault (Leaf want floor) =
    if nat_lt MAX_WANT want then Some WantTooLarge
    else if nat_lt want floor then Some FloorTooLarge
    else None
kind_fault (Branch None) = None
kind_fault (Branch (Some limit)) = if nat_lt MAX_LIMIT limit then Some LimitTooLarge else None

-- the fault of a node at `depth`, after `nodes` nodes and `leaves` leaves
abbrev pub node_fault : ℕ → ℕ → ℕ → NodeKind → Option TreeFault
node_fault depth nodes leaves kind =
    if nat_lt MAX_DEPTH depth then Some TooDeep
    else if nat_le MAX_NODES nodes || (is_leaf_kind kind && nat_le MAX_LEAVES leaves)
    then Some TooManyLeaves
    else kind_fault kind

-- the first fault of a list of nodes below `depth`, after `nodes` nodes and `leaves` leaves
abbrev pub first_fault : ℕ → ℕ → ℕ → List Place → Option TreeFault
first_fault depth nodes leaves [] = None
first_fault depth nodes leaves (p ∷ ps) =
    or_else (node_fault (depth + p.depth) nodes (leaves + p.first) p.kind)
    (first_fault depth (nodes + 1) leaves ps)

-- the number of a branch whose leaves' floors add up to more than its limit
abbrev pub over_limit : ℕ → ℕ → NodeKind → Option ℕ
over_limit number floors (Leaf want floor) = None
over_limit number floors (Branch None) = None
over_limit number floors (Branch (Some limit)) = if nat_lt limit floors then Some number else None

-- the first such branch in a list of nodes, of which the first has `number`
abbrev pub first_over : ℕ → List Place → Option ℕ
first_over number [] = None
first_over number (p ∷ ps) =
    or_else (over_limit number p.floors p.kind) (first_over (number + 1) ps)

-- The fault of the first node in preorder that has one; otherwise the first branch whose floors add
-- up to more than its limit.
abbrev pub tree_fault : List Place → Option TreeFault
tree_fault outline =
    or_else (first_fault 0 0 0 outline) (option_map FloorsOverLimit (first_over 0 outline))

-- The properties of a tree without a fault, with its numbers of nodes and leaves.
pub record IsSound (outline : List Place) (nodes leaves : ℕ) : Type 0 where
  pub sound : tree_fault outline ≡ None
  pub nodes_are : nodes ≡ length outline
  pub leaves_are : leaves ≡ leaf_count outline
  pub few_nodes : nodes ≤ MAX_NODES
  pub few_leaves : leaves ≤ MAX_LEAVES
  pub wants_are : leaves ≡ length (limits outline).wants
  pub few_octets : sum (limits outline).wants ≤ leaves * MAX_WANT
  pub few_floors : sum (limits outline).floors ≤ sum (limits outline).wants
  pub bounded : (k : ℕ) (p : Place) → slice_get outline k ≡ Some p → p.first + p.leaves ≤ leaves
  pub limit_tree : IsLimitTree (limits outline)
  pub later : LaterIsInside (limits outline)
