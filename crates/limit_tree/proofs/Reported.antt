-- What the leaves of a tree are, kid by kid.
use Rattle.std.proofs.Common.{◌≡◌, ℕ, ◌+◌, ◌<◌, List, [], ◌∷◌, ◌++◌, map, length, get_or, drop, refl, sym, ap, ◌∙◌, append_assoc, Option}
use Rattle.std.specs.List.{filter_map, cons_option}
use Rattle.std.proofs.lemmas.List.Elements.{filter_map-append}
use Rattle.limit_tree.specs.Outline.{leaf_count, deeper, behind, places, kind_of, kids_of, layer_kind}
use Rattle.limit_tree.specs.declared.place.NodeKind.{NodeKind}
use Rattle.limit_tree.specs.declared.place.NodeKind.TheVariants.{Branch, Leaf}
use Rattle.limit_tree.specs.declared.place.Place.{Place}
use Rattle.limit_tree.specs.declared.node.Node.{Node}
use Rattle.limit_tree.specs.declared.node.Node.TheOpen.{Node-F}
use Rattle.limit_tree.specs.declared.node.Node.TheOpen.Node-F.{Branch as BranchOf, Leaf as LeafOf}
use Rattle.limit_tree.specs.declared.node.Node.TheViews.{out-Node}
use Rattle.limit_tree.proofs.Places.{places_of_all, places_of_all-drop, layer_root, places_out}

-- a number of each leaf
abbrev pub reported : (NodeKind → Option ℕ) → List Place → List ℕ
reported f ps = filter_map (λ (p : Place). f p.kind) ps

reported-behind : (f : NodeKind → Option ℕ) (n : ℕ) (p : List Place) → reported f (map (behind n) p) ≡ reported f p
reported-behind f n [] = refl
reported-behind f n (x ∷ p) = ap (cons_option (f x.kind)) (reported-behind f n p)

reported-deeper : (f : NodeKind → Option ℕ) (p : List Place) → reported f (map deeper p) ≡ reported f p
reported-deeper f [] = refl
reported-deeper f (x ∷ p) = ap (cons_option (f x.kind)) (reported-deeper f p)

-- the trees from the i-th kid on
pub reported-more : {A : Type 0} (f : NodeKind → Option ℕ) (kids : List (Node A)) (i : ℕ) (kid : Node A) → i < length kids → kid ≡ get_or kids i kid → reported f (places_of_all (drop i kids)) ≡ reported f (places kid) ++ reported f (places_of_all (drop (i + 1) kids))
reported-more {A} f kids i kid less is =
    let others = places_of_all (drop (i + 1) kids) in
    ap (reported f) (places_of_all-drop kids i kid less is) ∙
    (filter_map-append (λ (p : Place). f p.kind) (places kid) (map (behind (leaf_count (places kid))) others) ∙
    ap (λ (ws : List ℕ). reported f (places kid) ++ ws) (reported-behind f (leaf_count (places kid)) others))

-- a tree, from the trees below its root
pub reported-out : {A : Type 0} (f : NodeKind → Option ℕ) (n : Node A) → reported f (places n) ≡ cons_option (f (kind_of n)) (reported f (places_of_all (kids_of n)))
reported-out {A} f n = ap (reported f) (places_out n) ∙ go (out-Node A n)
  where
    go : (x : Node-F A (Node A)) → reported f (layer_root x ∷ map deeper (places_of_all (kids_of n))) ≡ cons_option (f (layer_kind x)) (reported f (places_of_all (kids_of n)))
    go (LeafOf want floor) = ap (cons_option (f (Leaf want floor))) (reported-deeper f (places_of_all (kids_of n)))
    go (BranchOf limit kids) = ap (cons_option (f (Branch limit))) (reported-deeper f (places_of_all (kids_of n)))

-- one kid more in a table
pub table-more : {A : Type 0} (f : NodeKind → Option ℕ) (kids : List (Node A)) (i : ℕ) (kid : Node A) (was now all : List ℕ) → i < length kids → kid ≡ get_or kids i kid → now ≡ was ++ reported f (places kid) → was ++ reported f (places_of_all (drop i kids)) ≡ all → now ++ reported f (places_of_all (drop (i + 1) kids)) ≡ all
table-more f kids i kid was now all less is more before =
    ap (λ (ws : List ℕ). ws ++ reported f (places_of_all (drop (i + 1) kids))) more ∙
    (append_assoc was (reported f (places kid)) (reported f (places_of_all (drop (i + 1) kids))) ∙
    (ap (λ (ws : List ℕ). was ++ ws) (sym (reported-more f kids i kid less is)) ∙ before))
