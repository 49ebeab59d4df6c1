-- The equations of `places`: a tree is its root and the trees below it.
use Rattle.std.proofs.Common.{◌≡◌, ℕ, ◌+◌, cond, List, [], ◌∷◌, ◌++◌, map, length, refl, sym, ap, ◌∙◌, subst, arith, length-append, suc, get_or, drop, ◌<◌}
use Rattle.std.proofs.Math.Seq.{drop-cons}
use Rattle.std.proofs.lemmas.List.{length-map}
use Rattle.std.proofs.lemmas.List.Sums.{sum_by-append, sum_by-cons}
use Rattle.limit_tree.specs.declared.place.NodeKind.{NodeKind}
use Rattle.limit_tree.specs.declared.place.Place.{Place}
use Rattle.limit_tree.specs.Outline.{is_leaf_kind, own_floor, leaf_count, floor_sum, deeper, behind, beside, leaf_alone, branch_over, place_step, places, layer_kind, layer_kids, kind_of, kids_of}
use Rattle.limit_tree.specs.declared.node.Node.{Node}
use Rattle.limit_tree.specs.declared.node.Node.TheOpen.{Node-F}
use Rattle.limit_tree.specs.declared.node.Node.TheOpen.Node-F.{Branch as BranchOf, Leaf as LeafOf}
use Rattle.limit_tree.specs.declared.node.Node.TheViews.{out-Node, roll-Node, roll-out-Node}
use Rattle.limit_tree.specs.declared.node.Node.TheFolds.{fold-roll-Node}

-- the nodes of trees side by side
abbrev pub places_of_all : {A : Type 0} → List (Node A) → List Place
places_of_all kids = beside (map places kids)

-- what a node by itself adds to the leaves and the floors
abbrev pub own_leaves : NodeKind → ℕ
own_leaves kind = cond (is_leaf_kind kind) 1 0

abbrev leaf_of : Place → ℕ
leaf_of p = own_leaves p.kind

abbrev floor_of : Place → ℕ
floor_of p = own_floor p.kind

pub leaf_count-append : (p q : List Place) → leaf_count (p ++ q) ≡ leaf_count p + leaf_count q
leaf_count-append p q = sum_by-append leaf_of p q

pub leaf_count-cons : (x : Place) (p : List Place) → leaf_count (x ∷ p) ≡ own_leaves x.kind + leaf_count p
leaf_count-cons x p = sum_by-cons leaf_of x p

pub floor_sum-append : (p q : List Place) → floor_sum (p ++ q) ≡ floor_sum p + floor_sum q
floor_sum-append p q = sum_by-append floor_of p q

pub floor_sum-cons : (x : Place) (p : List Place) → floor_sum (x ∷ p) ≡ own_floor x.kind + floor_sum p
floor_sum-cons x p = sum_by-cons floor_of x p

pub leaf_count-behind : (n : ℕ) (p : List Place) → leaf_count (map (behind n) p) ≡ leaf_count p
leaf_count-behind n [] = refl
leaf_count-behind n (x ∷ p) = omega (arith, leaf_count-behind n p, leaf_count-cons x p, leaf_count-cons (behind n x) (map (behind n) p))

pub leaf_count-deeper : (p : List Place) → leaf_count (map deeper p) ≡ leaf_count p
leaf_count-deeper [] = refl
leaf_count-deeper (x ∷ p) = omega (arith, leaf_count-deeper p, leaf_count-cons x p, leaf_count-cons (deeper x) (map deeper p))

pub floor_sum-behind : (n : ℕ) (p : List Place) → floor_sum (map (behind n) p) ≡ floor_sum p
floor_sum-behind n [] = refl
floor_sum-behind n (x ∷ p) = omega (arith, floor_sum-behind n p, floor_sum-cons x p, floor_sum-cons (behind n x) (map (behind n) p))

pub floor_sum-deeper : (p : List Place) → floor_sum (map deeper p) ≡ floor_sum p
floor_sum-deeper [] = refl
floor_sum-deeper (x ∷ p) = omega (arith, floor_sum-deeper p, floor_sum-cons x p, floor_sum-cons (deeper x) (map deeper p))

pub leaf_count-beside : (p : List Place) (ps : List (List Place)) → leaf_count (beside (p ∷ ps)) ≡ leaf_count p + leaf_count (beside ps)
leaf_count-beside p ps = omega (arith, leaf_count-append p (map (behind (leaf_count p)) (beside ps)), leaf_count-behind (leaf_count p) (beside ps))

pub floor_sum-beside : (p : List Place) (ps : List (List Place)) → floor_sum (beside (p ∷ ps)) ≡ floor_sum p + floor_sum (beside ps)
floor_sum-beside p ps = omega (arith, floor_sum-append p (map (behind (leaf_count p)) (beside ps)), floor_sum-behind (leaf_count p) (beside ps))

pub length-beside : (p : List Place) (ps : List (List Place)) → length (beside (p ∷ ps)) ≡ length p + length (beside ps)
length-beside p ps = omega (arith, length-append p (map (behind (leaf_count p)) (beside ps)), length-map (beside ps) (behind (leaf_count p)))

-- the root of a tree with a layer
abbrev pub layer_root : {A : Type 0} → Node-F A (Node A) → Place
layer_root (LeafOf want floor) = leaf_alone want floor
layer_root (BranchOf limit kids) = branch_over limit (length kids.items) (places_of_all kids.items)

pub places_roll : {A : Type 0} (x : Node-F A (Node A)) → places (roll-Node A x) ≡ layer_root x ∷ map deeper (places_of_all (layer_kids x))
places_roll {A} (LeafOf want floor) = fold-roll-Node A (List Place) place_step (LeafOf want floor)
places_roll {A} (BranchOf limit kids) =
    fold-roll-Node A (List Place) place_step (BranchOf limit kids) ∙
    ap (λ (n : ℕ). branch_over limit n (places_of_all kids.items) ∷ map deeper (places_of_all kids.items)) (length-map kids.items places)

pub places_out : {A : Type 0} (n : Node A) → places n ≡ layer_root (out-Node A n) ∷ map deeper (places_of_all (kids_of n))
places_out {A} n = subst (λ (m : Node A). places m ≡ layer_root (out-Node A n) ∷ map deeper (places_of_all (kids_of n))) (roll-out-Node A n) (places_roll (out-Node A n))

pub length_places_out : {A : Type 0} (n : Node A) → length (places n) ≡ 1 + length (places_of_all (kids_of n))
length_places_out n = ap length (places_out n) ∙ omega (arith, length-map (places_of_all (kids_of n)) deeper)

pub leaf_count_out : {A : Type 0} (n : Node A) → leaf_count (places n) ≡ own_leaves (kind_of n) + leaf_count (places_of_all (kids_of n))
leaf_count_out {A} n = ap leaf_count (places_out n) ∙ go (out-Node A n)
  where
    go : (x : Node-F A (Node A)) → leaf_count (layer_root x ∷ map deeper (places_of_all (kids_of n))) ≡ own_leaves (layer_kind x) + leaf_count (places_of_all (kids_of n))
    go (LeafOf want floor) = omega (arith, leaf_count-deeper (places_of_all (kids_of n)), leaf_count-cons (leaf_alone want floor) (map deeper (places_of_all (kids_of n))))
    go (BranchOf limit kids) = omega (arith, leaf_count-deeper (places_of_all (kids_of n)), leaf_count-cons (branch_over limit (length kids.items) (places_of_all kids.items)) (map deeper (places_of_all (kids_of n))))

pub floor_sum_out : {A : Type 0} (n : Node A) → floor_sum (places n) ≡ own_floor (kind_of n) + floor_sum (places_of_all (kids_of n))
floor_sum_out {A} n = ap floor_sum (places_out n) ∙ go (out-Node A n)
  where
    go : (x : Node-F A (Node A)) → floor_sum (layer_root x ∷ map deeper (places_of_all (kids_of n))) ≡ own_floor (layer_kind x) + floor_sum (places_of_all (kids_of n))
    go (LeafOf want floor) = omega (arith, floor_sum-deeper (places_of_all (kids_of n)), floor_sum-cons (leaf_alone want floor) (map deeper (places_of_all (kids_of n))))
    go (BranchOf limit kids) = omega (arith, floor_sum-deeper (places_of_all (kids_of n)), floor_sum-cons (branch_over limit (length kids.items) (places_of_all kids.items)) (map deeper (places_of_all (kids_of n))))

-- the trees from the i-th kid on
pub places_of_all-drop : {A : Type 0} (kids : List (Node A)) (i : ℕ) (kid : Node A) → i < length kids → kid ≡ get_or kids i kid → places_of_all (drop i kids) ≡ places kid ++ map (behind (leaf_count (places kid))) (places_of_all (drop (i + 1) kids))
places_of_all-drop {A} kids i kid l is =
    let e : i + 1 ≡ suc i = omega arith in
    rw (e) (ap (λ (ks : List (Node A)). places_of_all ks) (drop-cons kids i kid l) ∙ ap (λ (k : Node A). places_of_all (k ∷ drop (suc i) kids)) (sym is))

pub length_places_of_all-drop : {A : Type 0} (kids : List (Node A)) (i : ℕ) (kid : Node A) → i < length kids → kid ≡ get_or kids i kid → length (places_of_all (drop i kids)) ≡ length (places kid) + length (places_of_all (drop (i + 1) kids))
length_places_of_all-drop kids i kid l is = ap length (places_of_all-drop kids i kid l is) ∙ length-beside (places kid) (map places (drop (i + 1) kids))

pub leaf_count_of_all-drop : {A : Type 0} (kids : List (Node A)) (i : ℕ) (kid : Node A) → i < length kids → kid ≡ get_or kids i kid → leaf_count (places_of_all (drop i kids)) ≡ leaf_count (places kid) + leaf_count (places_of_all (drop (i + 1) kids))
leaf_count_of_all-drop kids i kid l is = ap leaf_count (places_of_all-drop kids i kid l is) ∙ leaf_count-beside (places kid) (map places (drop (i + 1) kids))

pub floor_sum_of_all-drop : {A : Type 0} (kids : List (Node A)) (i : ℕ) (kid : Node A) → i < length kids → kid ≡ get_or kids i kid → floor_sum (places_of_all (drop i kids)) ≡ floor_sum (places kid) + floor_sum (places_of_all (drop (i + 1) kids))
floor_sum_of_all-drop kids i kid l is = ap floor_sum (places_of_all-drop kids i kid l is) ∙ floor_sum-beside (places kid) (map places (drop (i + 1) kids))
