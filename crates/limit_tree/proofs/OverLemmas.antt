-- The first branch above whose limit the floors are, of trees side by side, and of a tree under its root.
use Rattle.std.proofs.Common.{◌≡◌, ℕ, ◌+◌, List, [], ◌∷◌, ◌++◌, map, length, get_or, drop, ◌<◌, refl, sym, ap, ◌∙◌, arith, Option, Some, None}
use Rattle.limit_tree.specs.Outline.{own_floor, leaf_count, floor_sum, deeper, behind, places, layer_kind, layer_kids, kind_of, kids_of}
use Rattle.limit_tree.specs.declared.place.NodeKind.TheVariants.{Branch}
use Rattle.limit_tree.specs.Faults.{or_else, over_limit, first_over}
use Rattle.limit_tree.specs.declared.place.Place.{Place}
use Rattle.limit_tree.specs.declared.node.Node.{Node}
use Rattle.limit_tree.specs.declared.node.Node.TheOpen.{Node-F}
use Rattle.limit_tree.specs.declared.node.Node.TheOpen.Node-F.{Branch as BranchOf, Leaf as LeafOf}
use Rattle.limit_tree.specs.declared.node.Node.TheViews.{out-Node}
use Rattle.limit_tree.proofs.Places.{places_of_all, places_of_all-drop, layer_root, places_out, floor_sum_out}
use Rattle.limit_tree.proofs.FaultLemmas.{or_else-assoc}

pub or_else-none : {X : Type 0} (a : Option X) → or_else a None ≡ a
or_else-none None = refl
or_else-none (Some f) = refl

pub first_over-deeper : (n : ℕ) (q : List Place) → first_over n (map deeper q) ≡ first_over n q
first_over-deeper n [] = refl
first_over-deeper n (p ∷ q) = ap (or_else (over_limit n p.floors p.kind)) (first_over-deeper (n + 1) q)

pub first_over-behind : (n c : ℕ) (q : List Place) → first_over n (map (behind c) q) ≡ first_over n q
first_over-behind n c [] = refl
first_over-behind n c (p ∷ q) = ap (or_else (over_limit n p.floors p.kind)) (first_over-behind (n + 1) c q)

pub first_over-append : (n : ℕ) (p q : List Place) → first_over n (p ++ q) ≡ or_else (first_over n p) (first_over (n + length p) q)
first_over-append n [] q = let e : n + 0 ≡ n = omega arith in rw e
first_over-append n (x ∷ p) q =
    let e : n + length (x ∷ p) ≡ n + 1 + length p = omega arith in
    rw (e, first_over-append (n + 1) p q) (sym (or_else-assoc (over_limit n x.floors x.kind) (first_over (n + 1) p) (first_over (n + 1 + length p) q)))

-- the trees from the i-th kid on
pub first_over_more : {A : Type 0} (n : ℕ) (kids : List (Node A)) (i : ℕ) (kid : Node A) → i < length kids → kid ≡ get_or kids i kid → first_over n (places_of_all (drop i kids)) ≡ or_else (first_over n (places kid)) (first_over (n + length (places kid)) (places_of_all (drop (i + 1) kids)))
first_over_more n kids i kid less is =
    ap (first_over n) (places_of_all-drop kids i kid less is) ∙
    (first_over-append n (places kid) (map (behind (leaf_count (places kid))) (places_of_all (drop (i + 1) kids))) ∙
    ap (or_else (first_over n (places kid))) (first_over-behind (n + length (places kid)) (leaf_count (places kid)) (places_of_all (drop (i + 1) kids))))

-- a tree: its root, and then the trees below it
pub first_over_out : {A : Type 0} (n : ℕ) (node : Node A) → first_over n (places node) ≡ or_else (over_limit n (floor_sum (places node)) (kind_of node)) (first_over (n + 1) (places_of_all (kids_of node)))
first_over_out {A} n node = ap (first_over n) (places_out node) ∙ go (out-Node A node) (floor_sum (places node)) (floor_sum_out node)
  where
    go : (x : Node-F A (Node A)) (floors : ℕ) → floors ≡ own_floor (layer_kind x) + floor_sum (places_of_all (layer_kids x)) → first_over n (layer_root x ∷ map deeper (places_of_all (layer_kids x))) ≡ or_else (over_limit n floors (layer_kind x)) (first_over (n + 1) (places_of_all (layer_kids x)))
    go (LeafOf want floor) floors e = refl
    go (BranchOf limit kids) floors e =
        let below = places_of_all kids.items in
        let same : floor_sum below ≡ floors = omega (arith, e) in
        ap (or_else (over_limit n (floor_sum below) (Branch limit))) (first_over-deeper (n + 1) below) ∙
        ap (λ (f : ℕ). or_else (over_limit n f (Branch limit)) (first_over (n + 1) below)) same
