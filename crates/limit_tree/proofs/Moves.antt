-- Nodes further down and behind more leaves.
use Rattle.std.proofs.Common.{◌≡◌, ℕ, ◌+◌, ◌<◌, List, [], ◌∷◌, ◌++◌, map, length, get_or, drop, refl, ap, ◌∙◌, arith}
use Rattle.std.proofs.lemmas.List.{map-append}
use Rattle.limit_tree.specs.declared.place.NodeKind.{NodeKind}
use Rattle.limit_tree.specs.declared.place.NodeKind.TheVariants.{Branch, Leaf}
use Rattle.limit_tree.specs.declared.place.Place.{Place}
use Rattle.limit_tree.specs.Outline.{leaf_count, floor_sum, own_floor, deeper, behind, moved, places, root_place, layer_kind, layer_kids, kids_of}
use Rattle.limit_tree.specs.declared.node.Node.{Node}
use Rattle.limit_tree.specs.declared.node.Node.TheOpen.{Node-F}
use Rattle.limit_tree.specs.declared.node.Node.TheOpen.Node-F.{Branch as BranchOf, Leaf as LeafOf}
use Rattle.limit_tree.specs.declared.node.Node.TheViews.{out-Node}
use Rattle.limit_tree.proofs.Places.{places_of_all, places_of_all-drop, layer_root, places_out, own_leaves, leaf_count-cons, leaf_count_out, length_places_out, floor_sum_out}

abbrev at : Place → ℕ → ℕ → Place
at p depth first = record p { depth = depth; first = first }

moved-deeper : (d f : ℕ) (p : Place) → moved d f (deeper p) ≡ moved (d + 1) f p
moved-deeper d f p = let e : p.depth + 1 + d ≡ p.depth + (d + 1) = omega arith in ap (λ (x : ℕ). at p x (f + p.first)) e

moved-behind : (d f c : ℕ) (p : Place) → moved d f (behind c p) ≡ moved d (f + c) p
moved-behind d f c p = let e : f + (c + p.first) ≡ f + c + p.first = omega arith in ap (λ (x : ℕ). at p (p.depth + d) x) e

pub moved-here : (p : Place) → moved 0 0 p ≡ p
moved-here p =
    let a : p.depth + 0 ≡ p.depth = omega arith in
    let b : 0 + p.first ≡ p.first = omega arith in
    ap (λ (x : ℕ). at p x (0 + p.first)) a ∙ ap (λ (x : ℕ). at p p.depth x) b

pub map_moved-deeper : (d f : ℕ) (q : List Place) → map (moved d f) (map deeper q) ≡ map (moved (d + 1) f) q
map_moved-deeper d f [] = refl
map_moved-deeper d f (x ∷ q) = ap (λ (y : Place). y ∷ map (moved d f) (map deeper q)) (moved-deeper d f x) ∙ ap (λ (r : List Place). moved (d + 1) f x ∷ r) (map_moved-deeper d f q)

pub map_moved-behind : (d f c : ℕ) (q : List Place) → map (moved d f) (map (behind c) q) ≡ map (moved d (f + c)) q
map_moved-behind d f c [] = refl
map_moved-behind d f c (x ∷ q) = ap (λ (y : Place). y ∷ map (moved d f) (map (behind c) q)) (moved-behind d f c x) ∙ ap (λ (r : List Place). moved d (f + c) x ∷ r) (map_moved-behind d f c q)

pub map_moved-here : (q : List Place) → map (moved 0 0) q ≡ q
map_moved-here [] = refl
map_moved-here (x ∷ q) = ap (λ (y : Place). y ∷ map (moved 0 0) q) (moved-here x) ∙ ap (λ (r : List Place). x ∷ r) (map_moved-here q)

pub leaf_count-moved : (d f : ℕ) (q : List Place) → leaf_count (map (moved d f) q) ≡ leaf_count q
leaf_count-moved d f [] = refl
leaf_count-moved d f (x ∷ q) = omega (arith, leaf_count-moved d f q, leaf_count-cons x q, leaf_count-cons (moved d f x) (map (moved d f) q))

-- a place from its numbers
abbrev place_from : ℕ → ℕ → ℕ → ℕ → ℕ → ℕ → NodeKind → Place
place_from depth first leaves nodes kids floors kind = record { depth = depth; first = first; leaves = leaves; nodes = nodes; kids = kids; floors = floors; kind = kind }

same_place : (a b c d e a' b' c' d' e' kids : ℕ) (k : NodeKind) → a ≡ a' → b ≡ b' → c ≡ c' → d ≡ d' → e ≡ e' → place_from a b c d kids e k ≡ place_from a' b' c' d' kids e' k
same_place a b c d e a' b' c' d' e' kids k p q r s t =
    ap (λ (x : ℕ). place_from x b c d kids e k) p ∙
    (ap (λ (x : ℕ). place_from a' x c d kids e k) q ∙
    (ap (λ (x : ℕ). place_from a' b' x d kids e k) r ∙
    (ap (λ (x : ℕ). place_from a' b' c' x kids e k) s ∙
    ap (λ (x : ℕ). place_from a' b' c' d' kids x k) t)))

moved_layer : {A : Type 0} (d f : ℕ) (x : Node-F A (Node A)) (leaves nodes floors : ℕ)
    → leaves ≡ own_leaves (layer_kind x) + leaf_count (places_of_all (layer_kids x))
    → nodes ≡ 1 + length (places_of_all (layer_kids x))
    → floors ≡ own_floor (layer_kind x) + floor_sum (places_of_all (layer_kids x))
    → moved d f (layer_root x) ≡ place_from d f leaves nodes (length (layer_kids x)) floors (layer_kind x)
moved_layer d f (LeafOf want floor) leaves nodes floors l n s = same_place (0 + d) (f + 0) 1 1 floor d f leaves nodes floors 0 (Leaf want floor) (omega arith) (omega arith) (omega arith) (omega arith) (omega arith)
moved_layer d f (BranchOf limit kids) leaves nodes floors l n s = same_place (0 + d) (f + 0) (leaf_count (places_of_all kids.items)) (1 + length (places_of_all kids.items)) (floor_sum (places_of_all kids.items)) d f leaves nodes floors (length kids.items) (Branch limit) (omega arith) (omega arith) (omega arith) (omega arith) (omega arith)

-- a tree that is moved: its root, and the trees below it, one level further down
pub moved_out : {A : Type 0} (d f : ℕ) (n : Node A) → map (moved d f) (places n) ≡ root_place d f n ∷ map (moved (d + 1) f) (places_of_all (kids_of n))
moved_out {A} d f n =
    ap (map (moved d f)) (places_out n) ∙
    (ap (λ (y : Place). y ∷ map (moved d f) (map deeper (places_of_all (kids_of n)))) (moved_layer d f (out-Node A n) (leaf_count (places n)) (length (places n)) (floor_sum (places n)) (leaf_count_out n) (length_places_out n) (floor_sum_out n)) ∙
    ap (λ (r : List Place). root_place d f n ∷ r) (map_moved-deeper d f (places_of_all (kids_of n))))

-- the trees from the i-th kid on: that kid, and the others behind its leaves
pub moved_of_all-drop : {A : Type 0} (d f : ℕ) (kids : List (Node A)) (i : ℕ) (kid : Node A) → i < length kids → kid ≡ get_or kids i kid
    → map (moved d f) (places_of_all (drop i kids)) ≡ map (moved d f) (places kid) ++ map (moved d (f + leaf_count (places kid))) (places_of_all (drop (i + 1) kids))
moved_of_all-drop d f kids i kid l is =
    ap (map (moved d f)) (places_of_all-drop kids i kid l is) ∙
    (map-append (moved d f) (places kid) (map (behind (leaf_count (places kid))) (places_of_all (drop (i + 1) kids))) ∙
    ap (λ (r : List Place). map (moved d f) (places kid) ++ r) (map_moved-behind d f (leaf_count (places kid)) (places_of_all (drop (i + 1) kids))))
