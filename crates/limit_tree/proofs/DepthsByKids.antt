-- The numbers of the kids of a tree's nodes give their depths.
use Rattle.std.proofs.Common.{◌≡◌, ℕ, suc, ◌+◌, List, [], ◌∷◌, ◌++◌, map, length, replicate, refl, sym, ap, ◌∙◌, subst, append_assoc, append-nil, arith}
use Rattle.std.proofs.lemmas.List.{map-append}
use Rattle.limit_tree.specs.Depths.{depths_by, HaveDepths}
use Rattle.limit_tree.specs.Outline.{leaf_count, deeper, behind, places, layer_kids, leaf_alone, branch_over}
use Rattle.limit_tree.specs.declared.place.Place.{Place}
use Rattle.limit_tree.specs.declared.node.Node.{Node}
use Rattle.limit_tree.specs.declared.node.Node.TheOpen.{Node-F}
use Rattle.limit_tree.specs.declared.node.Node.TheOpen.Node-F.{Branch as BranchOf, Leaf as LeafOf}
use Rattle.limit_tree.specs.declared.node.Node.TheViews.{roll-Node}
use Rattle.limit_tree.specs.declared.node.Node.TheFolds.{ind-Node, map-Node}
use Rattle.limit_tree.proofs.Places.{places_of_all, layer_root, places_roll}

abbrev kids_in : List Place → List ℕ
kids_in ps = map (λ p. p.kids) ps

abbrev depths_from : ℕ → List Place → List ℕ
depths_from d ps = map (λ p. d + p.depth) ps

-- the nodes of a tree that begins at a depth, and what comes after them
abbrev IsDeep : List Place → Type 0
IsDeep ps = (d : ℕ) (next rest : List ℕ) → depths_by (d ∷ next) (kids_in ps ++ rest) ≡ depths_from d ps ++ depths_by next rest

-- the same for a number of trees side by side
abbrev AreDeep : ℕ → List Place → Type 0
AreDeep n ps = (d : ℕ) (next rest : List ℕ) → depths_by (replicate n d ++ next) (kids_in ps ++ rest) ≡ depths_from d ps ++ depths_by next rest

kids_in-behind : (c : ℕ) (ps : List Place) → kids_in (map (behind c) ps) ≡ kids_in ps
kids_in-behind c [] = refl
kids_in-behind c (p ∷ ps) = ap (λ (ks : List ℕ). p.kids ∷ ks) (kids_in-behind c ps)

depths_from-behind : (d c : ℕ) (ps : List Place) → depths_from d (map (behind c) ps) ≡ depths_from d ps
depths_from-behind d c [] = refl
depths_from-behind d c (p ∷ ps) = ap (λ (ds : List ℕ). (d + p.depth) ∷ ds) (depths_from-behind d c ps)

kids_in-deeper : (ps : List Place) → kids_in (map deeper ps) ≡ kids_in ps
kids_in-deeper [] = refl
kids_in-deeper (p ∷ ps) = ap (λ (ks : List ℕ). p.kids ∷ ks) (kids_in-deeper ps)

depths_from-deeper : (d : ℕ) (ps : List Place) → depths_from d (map deeper ps) ≡ depths_from (d + 1) ps
depths_from-deeper d [] = refl
depths_from-deeper d (p ∷ ps) =
    let here : d + (p.depth + 1) ≡ d + 1 + p.depth = omega arith in
    ap (λ (x : ℕ). x ∷ depths_from d (map deeper ps)) here ∙ ap (λ (ds : List ℕ). (d + 1 + p.depth) ∷ ds) (depths_from-deeper d ps)

deep-none : AreDeep 0 []
deep-none d next rest = refl

deep-pair : (n c : ℕ) (p q : List Place) → IsDeep p → AreDeep n q → AreDeep (n + 1) (p ++ map (behind c) q)
deep-pair n c p q in_p in_q d next rest =
    let more : replicate (n + 1) d ++ next ≡ d ∷ (replicate n d ++ next) = (let e : n + 1 ≡ suc n = omega arith in ap (λ (m : ℕ). replicate m d ++ next) e) in
    let kids : kids_in (p ++ map (behind c) q) ++ rest ≡ kids_in p ++ (kids_in q ++ rest) =
    ap (λ (ks : List ℕ). ks ++ rest) (map-append (λ (x : Place). x.kids) p (map (behind c) q) ∙ ap (λ (ks : List ℕ). kids_in p ++ ks) (kids_in-behind c q))
    ∙ append_assoc (kids_in p) (kids_in q) rest in
    let depths : depths_from d (p ++ map (behind c) q) ++ depths_by next rest ≡ depths_from d p ++ (depths_from d q ++ depths_by next rest) =
    ap (λ (ds : List ℕ). ds ++ depths_by next rest) (map-append (λ (x : Place). d + x.depth) p (map (behind c) q) ∙ ap (λ (ds : List ℕ). depths_from d p ++ ds) (depths_from-behind d c q))
    ∙ append_assoc (depths_from d p) (depths_from d q) (depths_by next rest) in
    ap (λ (ds : List ℕ). depths_by ds (kids_in (p ++ map (behind c) q) ++ rest)) more
    ∙ ap (depths_by (d ∷ (replicate n d ++ next))) kids
    ∙ in_p d (replicate n d ++ next) (kids_in q ++ rest)
    ∙ ap (λ (ds : List ℕ). depths_from d p ++ ds) (in_q d next rest)
    ∙ sym depths

-- under a root
deep-root : (root : Place) (below : List Place) → root.depth ≡ 0 → AreDeep root.kids below → IsDeep (root ∷ map deeper below)
deep-root root below top inner d next rest =
    let here : d ≡ d + root.depth = omega (arith, top) in
    let all : depths_by (replicate root.kids (d + 1) ++ next) (kids_in (map deeper below) ++ rest) ≡ depths_from d (map deeper below) ++ depths_by next rest =
    ap (λ (ks : List ℕ). depths_by (replicate root.kids (d + 1) ++ next) (ks ++ rest)) (kids_in-deeper below)
    ∙ inner (d + 1) next rest
    ∙ ap (λ (ds : List ℕ). ds ++ depths_by next rest) (sym (depths_from-deeper d below)) in
    ap (λ (ds : List ℕ). d ∷ ds) all ∙ ap (λ (x : ℕ). x ∷ (depths_from d (map deeper below) ++ depths_by next rest)) here

abbrev IsDeepTree : {A : Type 0} → Node A → Type 0
IsDeepTree n = IsDeep (places n)

deep-all : {A : Type 0} (kids : List ((n : Node A) × IsDeepTree n)) → AreDeep (length (map (λ e. e.0) kids)) (places_of_all (map (λ e. e.0) kids))
deep-all [] = deep-none
deep-all (kid ∷ kids) =
    let others = map (λ e. e.0) kids in
    let next : length others + 1 ≡ suc (length others) = omega arith in
    subst (λ (n : ℕ). AreDeep n (places_of_all (kid.0 ∷ others))) next
    (deep-pair (length others) (leaf_count (places kid.0)) (places kid.0) (places_of_all others) kid.1 (deep-all kids))

abbrev KidsDeep : {A : Type 0} → Node-F A (Node A) → Type 0
KidsDeep x = AreDeep (length (layer_kids x)) (places_of_all (layer_kids x))

deep-layer : {A : Type 0} (x : Node-F A (Node A)) → KidsDeep x → IsDeep (layer_root x ∷ map deeper (places_of_all (layer_kids x)))
deep-layer (LeafOf want floor) inner = deep-root (leaf_alone want floor) [] refl deep-none
deep-layer (BranchOf limit kids) inner = deep-root (branch_over limit (length kids.items) (places_of_all kids.items)) (places_of_all kids.items) refl inner

deep-roll : {A : Type 0} (x : Node-F A (Node A)) → KidsDeep x → IsDeepTree (roll-Node A x)
deep-roll x kids = subst (λ (ps : List Place). IsDeep ps) (sym (places_roll x)) (deep-layer x kids)

deep-tree : {A : Type 0} (n : Node A) → IsDeepTree n
deep-tree {A} = ind-Node A IsDeepTree (λ x y is. deep-roll x (subst KidsDeep is (elim y as (λ z. KidsDeep (map-Node A ((n : Node A) × IsDeepTree n) (Node A) (λ e. e.0) z)) [ LeafOf want floor ↦ deep-none | BranchOf limit kids ↦ deep-all kids.items ])))

depths_from-zero : (ps : List Place) → depths_from 0 ps ≡ map (λ p. p.depth) ps
depths_from-zero [] = refl
depths_from-zero (p ∷ ps) =
    let here : 0 + p.depth ≡ p.depth = omega arith in
    ap (λ (x : ℕ). x ∷ depths_from 0 ps) here ∙ ap (λ (ds : List ℕ). p.depth ∷ ds) (depths_from-zero ps)

pub have-depths : {A : Type 0} (n : Node A) → HaveDepths (places n)
have-depths n =
    let ps = places n in
    sym (ap (depths_by (0 ∷ [])) (sym (append-nil (kids_in ps))) ∙ deep-tree n 0 [] [] ∙ append-nil (depths_from 0 ps) ∙ depths_from-zero ps)
