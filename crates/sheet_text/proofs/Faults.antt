-- The faults of a whole tree.
use Rattle.std.proofs.Common.{◌≡◌, ◌∙◌, ℕ, zero, suc, ◌<◌, ◌+◌, Bool, true, false, cond, List, [], ◌∷◌, filter, length, get_or, refl, sym, ap, arith, Option, Some, None, nat_lt, nat_le, ◌||◌, ◌&&◌}
use Rattle.std.specs.List.{find}
use Rattle.std.specs.Option.{option_map, unwrap_or}
use Rattle.std.proofs.lemmas.List.{get_or-map, length-map}
use Rattle.limit_tree.specs.declared.place.NodeKind.{NodeKind}
use Rattle.limit_tree.specs.declared.place.NodeKind.TheVariants.{Branch, Leaf}
use Rattle.limit_tree.specs.declared.place.Place.{Place}
use Rattle.limit_tree.specs.declared.bounds.TheConstants.{MAX_DEPTH, MAX_NODES, MAX_LEAVES, MAX_WANT, MAX_LIMIT}
use Rattle.limit_tree.specs.declared.fault.TreeFault.{TreeFault}
use Rattle.limit_tree.specs.declared.fault.TreeFault.TheVariants.{TooDeep, TooManyLeaves, WantTooLarge, LimitTooLarge, FloorTooLarge, FloorsOverLimit}
use Rattle.limit_tree.specs.Faults.{or_else, kind_fault, node_fault, first_fault, over_limit, first_over, tree_fault}
use Rattle.limit_tree.specs.Outline.{is_leaf_kind}
use Rattle.sheet_text.specs.Paths.{NoneTwice, Path}
use Rattle.sheet_text.specs.Table.{Table, is_at, mention_at, path_at, paths_in}
use Rattle.sheet_text.specs.Tree.{kind_in, line_in, line_of, node_paths, outline_of, paths_to}
use Rattle.sheet_text.specs.Whole.{fault_line}
use Rattle.sheet_text.specs.Forest.{AreOver, is_want}
use Rattle.sheet_text.specs.TreeLaw.{kids_in}
use Rattle.sheet_text.proofs.Held.{is_tree}
use Rattle.sheet_text.proofs.TreeNodes.{kids_are}
use Rattle.sheet_text.proofs.Within.{same_self}
use Rattle.sheet_text.proofs.Tables.{apart_from, count}

kind_not_over : (kind : NodeKind) (node : ℕ) → kind_fault kind ≡ Some (FloorsOverLimit node) → ⊥
kind_not_over (Leaf want floor) node e = go (nat_lt MAX_WANT want) (nat_lt want floor) e
  where
    go : (a b : Bool) → cond a (Some WantTooLarge) (cond b (Some FloorTooLarge) None) ≡ Some (FloorsOverLimit node) → ⊥
    go true b h = cc
    go false true h = cc
    go false false h = cc
kind_not_over (Branch None) node e = cc
kind_not_over (Branch (Some limit)) node e = go (nat_lt MAX_LIMIT limit) e
  where
    go : (a : Bool) → cond a (Some LimitTooLarge) None ≡ Some (FloorsOverLimit node) → ⊥
    go true h = cc
    go false h = cc

node_not_over : (depth nodes leaves : ℕ) (kind : NodeKind) (node : ℕ) → node_fault depth nodes leaves kind ≡ Some (FloorsOverLimit node) → ⊥
node_not_over depth nodes leaves kind node = go (nat_lt MAX_DEPTH depth) (nat_le MAX_NODES nodes || (is_leaf_kind kind && nat_le MAX_LEAVES leaves))
  where
    go : (a b : Bool) → cond a (Some TooDeep) (cond b (Some TooManyLeaves) (kind_fault kind)) ≡ Some (FloorsOverLimit node) → ⊥
    go true b e = cc
    go false true e = cc
    go false false e = kind_not_over kind node e

first_not_over : (depth nodes leaves : ℕ) (places : List Place) (node : ℕ) → first_fault depth nodes leaves places ≡ Some (FloorsOverLimit node) → ⊥
first_not_over depth nodes leaves [] node e = cc
first_not_over depth nodes leaves (p ∷ ps) node e = go (node_fault (depth + p.depth) nodes (leaves + p.first) p.kind) refl (first_not_over depth (nodes + 1) leaves ps node) e
  where
    go : (o : Option TreeFault) → node_fault (depth + p.depth) nodes (leaves + p.first) p.kind ≡ o → (first_fault depth (nodes + 1) leaves ps ≡ Some (FloorsOverLimit node) → ⊥) → or_else o (first_fault depth (nodes + 1) leaves ps) ≡ Some (FloorsOverLimit node) → ⊥
    go None is rest h = rest h
    go (Some fault) is rest h = node_not_over (depth + p.depth) nodes (leaves + p.first) p.kind node (is ∙ h)

over_is : (number floors : ℕ) (kind : NodeKind) (node : ℕ) → over_limit number floors kind ≡ Some node → node ≡ number
over_is number floors (Leaf want floor) node e = cc
over_is number floors (Branch None) node e = cc
over_is number floors (Branch (Some limit)) node e = go (nat_lt limit floors) e
  where
    go : (b : Bool) → cond b (Some number) None ≡ Some node → node ≡ number
    go true h = cc
    go false h = cc

over_within : (number : ℕ) (places : List Place) (node : ℕ) → first_over number places ≡ Some node → node < number + length places
over_within number [] node e = cc
over_within number (p ∷ ps) node e = go (over_limit number p.floors p.kind) refl (over_within (number + 1) ps node) e
  where
    go : (o : Option ℕ) → over_limit number p.floors p.kind ≡ o → (first_over (number + 1) ps ≡ Some node → node < number + 1 + length ps) → or_else o (first_over (number + 1) ps) ≡ Some node → node < number + suc (length ps)
    go None is rest h = omega (arith, rest h)
    go (Some first) is rest h = let same : first ≡ node = cc in omega (arith, over_is number p.floors p.kind first is)

-- the branch that a fault of the whole names is a node
pub over_inside : (places : List Place) (node : ℕ) → tree_fault places ≡ Some (FloorsOverLimit node) → node < length places
over_inside places node e = go (first_fault 0 0 0 places) refl (first_over 0 places) refl e
  where
    go : (o : Option TreeFault) → first_fault 0 0 0 places ≡ o → (q : Option ℕ) → first_over 0 places ≡ q → or_else o (option_map FloorsOverLimit q) ≡ Some (FloorsOverLimit node) → node < length places
    go (Some fault) is q at h = absurd (first_not_over 0 0 0 places node (is ∙ h))
    go None is None at h = cc
    go None is (Some first) at h = let same : first ≡ node = cc in omega (arith, over_within 0 places first at)

-- the line of what stands at a place
pub line_there : (table : Table) (place : ℕ) → NoneTwice (paths_in table) → place < length table → line_in table (path_at table place) ≡ (mention_at table place).line
line_there [] place once l = absurd (omega arith)
line_there (m ∷ table) zero once l = ap (λ (b : Bool). line_of (cond b (Some m) (find (is_at m.path) table))) (same_self m.path)
line_there (m ∷ table) (suc place) once l =
    ap (λ (b : Bool). line_of (cond b (Some m) (find (is_at (path_at table place)) table))) (apart_from m.path (paths_in table) place once.0 (omega (arith, count table, l)))
    ∙ line_there table place once.1 (omega arith)

-- the line of the branch that a fault names
pub line_is : (table : Table) (order : List ℕ) (node place : ℕ) (line : Option ℕ) → NoneTwice (paths_in table) → node < length order → place ≡ get_or order node 0 → place < length table → paths_to table order ≡ node_paths table → line ≡ (mention_at table place).line
    → unwrap_or line 0 ≡ fault_line table (FloorsOverLimit node)
line_is table order node place line once less is within order_is e =
    ap (λ (o : Option ℕ). unwrap_or o 0) (e ∙ sym (line_there table place once within))
    ∙ ap (λ (p : Path). unwrap_or (line_in table p) 0) (ap (path_at table) is ∙ sym (get_or-map (path_at table) order node 0 [] less) ∙ ap (λ (ps : List Path). get_or ps node []) order_is)

-- as many nodes as paths
matched : (wants : List Path) (os : List Place) (ps : List Path) → AreOver wants os ps → length os ≡ length ps
matched wants [] [] over = refl
matched wants [] (p ∷ ps) over = absurd over
matched wants (o ∷ os) [] over = absurd over
matched wants (o ∷ os) (p ∷ ps) over = ap suc (matched wants os ps over.1)

as_many : (table : Table) → NoneTwice (paths_in table) → length (outline_of table) ≡ length (node_paths table)
as_many table once =
    let kind = kind_in table in
    let paths = paths_in table in
    matched (filter (is_want kind) (node_paths table)) (outline_of table) (node_paths table) (is_tree kind (kids_in paths) (kids_are paths once) MAX_DEPTH []).matches.over

-- the node that a fault names has a place in the order
pub over_listed : (table : Table) (places : List Place) (order : List ℕ) (node : ℕ) → NoneTwice (paths_in table) → places ≡ outline_of table → paths_to table order ≡ node_paths table → tree_fault places ≡ Some (FloorsOverLimit node) → node < length order
over_listed table places order node once is order_is e =
    omega (arith, over_inside places node e, ap length is, as_many table once, ap length order_is, length-map order (path_at table))
