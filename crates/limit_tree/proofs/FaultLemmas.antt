-- The first fault of trees side by side, and of a tree under its root.
use Rattle.std.proofs.Common.{◌≡◌, ℕ, ◌+◌, List, [], ◌∷◌, ◌++◌, map, length, get_or, drop, ◌<◌, refl, sym, ap, ◌∙◌, arith, Option, Some, None}
use Rattle.limit_tree.specs.Outline.{leaf_count, deeper, behind, beside, places, layer_kind, kind_of, kids_of}
use Rattle.limit_tree.specs.Faults.{node_fault, or_else, first_fault}
use Rattle.limit_tree.specs.declared.place.NodeKind.{NodeKind}
use Rattle.limit_tree.specs.declared.place.NodeKind.TheVariants.{Branch, Leaf}
use Rattle.limit_tree.specs.declared.place.Place.{Place}
use Rattle.limit_tree.specs.declared.node.Node.{Node}
use Rattle.limit_tree.specs.declared.fault.TreeFault.{TreeFault}
use Rattle.limit_tree.specs.declared.node.Node.TheOpen.{Node-F}
use Rattle.limit_tree.specs.declared.node.Node.TheOpen.Node-F.{Branch as BranchOf, Leaf as LeafOf}
use Rattle.limit_tree.specs.declared.node.Node.TheViews.{out-Node}
use Rattle.limit_tree.proofs.Places.{places_of_all, places_of_all-drop, layer_root, places_out}

-- a fault first, if there is one
pub or_else-assoc : {X : Type 0} (a b c : Option X) → or_else (or_else a b) c ≡ or_else a (or_else b c)
or_else-assoc None b c = refl
or_else-assoc (Some f) b c = refl

pub first_fault-deeper : (d n l : ℕ) (q : List Place) → first_fault d n l (map deeper q) ≡ first_fault (d + 1) n l q
first_fault-deeper d n l [] = refl
first_fault-deeper d n l (p ∷ q) =
    let e : d + (p.depth + 1) ≡ d + 1 + p.depth = omega arith in
    rw (e, first_fault-deeper d (n + 1) l q)

pub first_fault-behind : (d n l c : ℕ) (q : List Place) → first_fault d n l (map (behind c) q) ≡ first_fault d n (l + c) q
first_fault-behind d n l c [] = refl
first_fault-behind d n l c (p ∷ q) =
    let e : l + (c + p.first) ≡ l + c + p.first = omega arith in
    rw (e, first_fault-behind d (n + 1) l c q)

pub first_fault-append : (d n l : ℕ) (p q : List Place) → first_fault d n l (p ++ q) ≡ or_else (first_fault d n l p) (first_fault d (n + length p) l q)
first_fault-append d n l [] q = let e : n + 0 ≡ n = omega arith in rw e
first_fault-append d n l (x ∷ p) q =
    let e : n + length (x ∷ p) ≡ n + 1 + length p = omega arith in
    rw (e, first_fault-append d (n + 1) l p q) (sym (or_else-assoc (node_fault (d + x.depth) n (l + x.first) x.kind) (first_fault d (n + 1) l p) (first_fault d (n + 1 + length p) l q)))

pub first_fault-beside : (d n l : ℕ) (p : List Place) (ps : List (List Place)) → first_fault d n l (beside (p ∷ ps)) ≡ or_else (first_fault d n l p) (first_fault d (n + length p) (l + leaf_count p) (beside ps))
first_fault-beside d n l p ps = first_fault-append d n l p _ ∙ ap (or_else (first_fault d n l p)) (first_fault-behind d (n + length p) l (leaf_count p) (beside ps))

at_root : (d n l : ℕ) (k : NodeKind) (below : List Place) → or_else (node_fault (d + 0) n (l + 0) k) (first_fault d (n + 1) l (map deeper below)) ≡ or_else (node_fault d n l k) (first_fault (d + 1) (n + 1) l below)
at_root d n l k below =
    let a : d + 0 ≡ d = omega arith in
    let b : l + 0 ≡ l = omega arith in
    ap (λ (x : ℕ). or_else (node_fault x n (l + 0) k) (first_fault d (n + 1) l (map deeper below))) a ∙
    (ap (λ (x : ℕ). or_else (node_fault d n x k) (first_fault d (n + 1) l (map deeper below))) b ∙
    ap (or_else (node_fault d n l k)) (first_fault-deeper d (n + 1) l below))

-- the first fault of a node and those below it
pub first_fault_out : {A : Type 0} (d n l : ℕ) (node : Node A) → first_fault d n l (places node) ≡ or_else (node_fault d n l (kind_of node)) (first_fault (d + 1) (n + 1) l (places_of_all (kids_of node)))
first_fault_out {A} d n l node = ap (first_fault d n l) (places_out node) ∙ go (out-Node A node) (places_of_all (kids_of node))
  where
    go : (x : Node-F A (Node A)) (below : List Place) → first_fault d n l (layer_root x ∷ map deeper below) ≡ or_else (node_fault d n l (layer_kind x)) (first_fault (d + 1) (n + 1) l below)
    go (LeafOf want floor) below = at_root d n l (Leaf want floor) below
    go (BranchOf limit kids) below = at_root d n l (Branch limit) below

pub first_fault_more : {A : Type 0} (d n l : ℕ) (kids : List (Node A)) (i : ℕ) (kid : Node A) → i < length kids → kid ≡ get_or kids i kid → first_fault d n l (places_of_all (drop i kids)) ≡ or_else (first_fault d n l (places kid)) (first_fault d (n + length (places kid)) (l + leaf_count (places kid)) (places_of_all (drop (i + 1) kids)))
first_fault_more d n l kids i kid less is = ap (first_fault d n l) (places_of_all-drop kids i kid less is) ∙ first_fault-beside d n l (places kid) (map places (drop (i + 1) kids))

-- a tree without a fault is passed
pub first_fault_passed : {A : Type 0} (d n l after leaves : ℕ) (kids : List (Node A)) (i : ℕ) (kid : Node A) → i < length kids → kid ≡ get_or kids i kid → first_fault d n l (places kid) ≡ None → after ≡ n + length (places kid) → leaves ≡ l + leaf_count (places kid) → first_fault d n l (places_of_all (drop i kids)) ≡ first_fault d after leaves (places_of_all (drop (i + 1) kids))
first_fault_passed d n l after leaves kids i kid less is none nodes count =
    first_fault_more d n l kids i kid less is ∙
    (ap (λ (o : Option TreeFault). or_else o (first_fault d (n + length (places kid)) (l + leaf_count (places kid)) (places_of_all (drop (i + 1) kids)))) none ∙
    (ap (λ (x : ℕ). first_fault d x (l + leaf_count (places kid)) (places_of_all (drop (i + 1) kids))) (sym nodes) ∙
    ap (λ (x : ℕ). first_fault d after x (places_of_all (drop (i + 1) kids))) (sym count)))

-- a tree with a fault decides
pub first_fault_found : {A : Type 0} (d n l : ℕ) (kids : List (Node A)) (i : ℕ) (kid : Node A) (e : TreeFault) → i < length kids → kid ≡ get_or kids i kid → first_fault d n l (places kid) ≡ Some e → first_fault d n l (places_of_all (drop i kids)) ≡ Some e
first_fault_found d n l kids i kid e less is found =
    first_fault_more d n l kids i kid less is ∙
    ap (λ (o : Option TreeFault). or_else o (first_fault d (n + length (places kid)) (l + leaf_count (places kid)) (places_of_all (drop (i + 1) kids)))) found

-- a root without a fault passes on to the trees below it
pub first_fault_below : {A : Type 0} (d n l : ℕ) (node : Node A) → node_fault d n l (kind_of node) ≡ None → first_fault d n l (places node) ≡ first_fault (d + 1) (n + 1) l (places_of_all (kids_of node))
first_fault_below d n l node none = first_fault_out d n l node ∙ ap (λ (o : Option TreeFault). or_else o (first_fault (d + 1) (n + 1) l (places_of_all (kids_of node)))) none
