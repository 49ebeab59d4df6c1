-- What a copy of a tree's nodes has, kid by kid.
use Rattle.std.proofs.Common.{◌≡◌, ℕ, ◌+◌, ◌<◌, List, [], ◌∷◌, ◌++◌, map, length, get_or, drop, set, sym, ap, ◌∙◌, append_assoc, append-nil, length-append, arith, ◌≤◌, Option, Some, None}
use Rattle.std.specs.List.{cons_option}
use Rattle.std.proofs.lemmas.List.{length-map}
use Rattle.std.proofs.Math.Seq.{set-append_seam}
use Rattle.std.proofs.lemmas.List.{at_drop_all}
use Rattle.limit_tree.specs.Outline.{leaf_count, leaf_want, places, kids_of, kind_of, moved, root_place}
use Rattle.limit_tree.specs.declared.place.NodeKind.{NodeKind}
use Rattle.limit_tree.specs.declared.place.NodeKind.TheVariants.{Branch, Leaf}
use Rattle.limit_tree.specs.declared.place.Place.{Place}
use Rattle.limit_tree.specs.declared.node.Node.{Node}
use Rattle.limit_tree.proofs.Places.{places_of_all, length_places_out}
use Rattle.limit_tree.proofs.Leaves.{length-wants_in}
use Rattle.limit_tree.proofs.Reported.{reported, reported-out}
use Rattle.limit_tree.proofs.Moves.{moved_out, moved_of_all-drop}

-- no kid yet
pub copied-start : {A : Type 0} (depth n : ℕ) (node : Node A) (kids : List (Node A)) (unseen : Place) (was now : List Place) → now ≡ was ++ unseen ∷ [] → places_of_all (kids_of node) ≡ places_of_all kids
    → now ++ map (moved depth n) (places_of_all kids) ≡ was ++ unseen ∷ [] ++ map (moved depth n) (places_of_all (kids_of node))
copied-start depth n node kids unseen was now is below =
    ap (λ (ps : List Place). ps ++ map (moved depth n) (places_of_all kids)) is ∙ ap (λ (ps : List Place). was ++ unseen ∷ [] ++ map (moved depth n) ps) (sym below)

-- a branch tells what the trees below it tell, and a leaf its own number
pub reported-branch : {A : Type 0} (f : NodeKind → Option ℕ) (node : Node A) (kids : List (Node A)) (limit : Option ℕ) (was : List ℕ) → f (Branch limit) ≡ None → kind_of node ≡ Branch limit → places_of_all (kids_of node) ≡ places_of_all kids
    → was ++ reported f (places_of_all kids) ≡ was ++ reported f (places node)
reported-branch f node kids limit was none kind below =
    ap (λ (ws : List ℕ). was ++ ws) (sym (reported-out f node ∙ (ap (λ (k : NodeKind). cons_option (f k) (reported f (places_of_all (kids_of node)))) kind ∙
    (ap (λ (o : Option ℕ). cons_option o (reported f (places_of_all (kids_of node)))) none ∙ ap (reported f) below))))

pub reported-leaf : {A : Type 0} (f : NodeKind → Option ℕ) (node : Node A) (want floor number : ℕ) (was now : List ℕ) → f (Leaf want floor) ≡ Some number → kind_of node ≡ Leaf want floor → places_of_all (kids_of node) ≡ []
    → now ≡ was ++ number ∷ [] → now ≡ was ++ reported f (places node)
reported-leaf f node want floor number was now own kind none is =
    is ∙ ap (λ (ws : List ℕ). was ++ ws) (sym (reported-out f node ∙ (ap (λ (k : NodeKind). cons_option (f k) (reported f (places_of_all (kids_of node)))) kind ∙
    (ap (λ (o : Option ℕ). cons_option o (reported f (places_of_all (kids_of node)))) own ∙ ap (λ (ps : List Place). number ∷ reported f ps) none))))

-- nothing stands below a leaf
pub copied-leaf : {A : Type 0} (depth n : ℕ) (node : Node A) (unseen : Place) (was now : List Place) → now ≡ was ++ unseen ∷ [] → places_of_all (kids_of node) ≡ [] → now ≡ was ++ unseen ∷ [] ++ map (moved depth n) (places_of_all (kids_of node))
copied-leaf depth n node unseen was now is none = is ∙ (sym (append-nil (was ++ unseen ∷ [])) ∙ ap (λ (ps : List Place). was ++ unseen ∷ [] ++ map (moved depth n) ps) (sym none))

-- how many leaves were passed
pub reached-more : (was now : List ℕ) (below : List Place) → now ≡ was ++ reported leaf_want below → length now ≡ length was + leaf_count below
reached-more was now below is = ap length is ∙ (length-append was (reported leaf_want below) ∙ ap (λ (n : ℕ). length was + n) (length-wants_in below))

-- how many nodes a copy has
pub length-copied : {A : Type 0} (depth n : ℕ) (node : Node A) (unseen : Place) (was now : List Place) → now ≡ was ++ unseen ∷ [] ++ map (moved depth n) (places_of_all (kids_of node)) → length now ≡ length was + length (places node)
length-copied depth n node unseen was now is =
    let rest = map (moved depth n) (places_of_all (kids_of node)) in
    omega (arith, ap length is, length-append (was ++ unseen ∷ []) rest, length-append was (unseen ∷ []), length-map (places_of_all (kids_of node)) (moved depth n), length_places_out node)

-- one kid more
pub copied-more : {A : Type 0} (depth n m : ℕ) (kids : List (Node A)) (i : ℕ) (kid : Node A) (was now all : List Place) → i < length kids → kid ≡ get_or kids i kid
    → now ≡ was ++ map (moved depth n) (places kid) → m ≡ n + leaf_count (places kid) → was ++ map (moved depth n) (places_of_all (drop i kids)) ≡ all → now ++ map (moved depth m) (places_of_all (drop (i + 1) kids)) ≡ all
copied-more depth n m kids i kid was now all less is more reached before =
    let others = places_of_all (drop (i + 1) kids) in
    let here = map (moved depth n) (places kid) in
    ap (λ (ps : List Place). ps ++ map (moved depth m) others) more ∙
    (ap (λ (k : ℕ). was ++ here ++ map (moved depth k) others) reached ∙
    (append_assoc was here (map (moved depth (n + leaf_count (places kid))) others) ∙
    (ap (λ (ps : List Place). was ++ ps) (sym (moved_of_all-drop depth n kids i kid less is)) ∙ before)))

-- and the node itself, once those below it are copied
pub copied-whole : {A : Type 0} (depth first number : ℕ) (node : Node A) (unseen : Place) (was below : List Place) → number ≡ length was
    → below ≡ was ++ unseen ∷ [] ++ map (moved (depth + 1) first) (places_of_all (kids_of node)) → set below number (root_place depth first node) ≡ was ++ map (moved depth first) (places node)
copied-whole depth first number node unseen was below at is =
    let rest = map (moved (depth + 1) first) (places_of_all (kids_of node)) in
    let root = root_place depth first node in
    ap (λ (n : ℕ). set below n root) at ∙
    (ap (λ (ps : List Place). set ps (length was) root) (is ∙ append_assoc was (unseen ∷ []) rest) ∙
    (set-append_seam was unseen rest root ∙ ap (λ (ps : List Place). was ++ ps) (sym (moved_out depth first node))))

-- nothing is left behind the last kid
pub nothing-left : {X Y : Type 0} (F : List X → List Y) (xs : List X) (i : ℕ) (ys all : List Y) → F [] ≡ [] → length xs ≤ i → ys ++ F (drop i xs) ≡ all → ys ≡ all
nothing-left {X} {Y} F xs i ys all none past is = sym (append-nil ys) ∙ (ap (λ (zs : List Y). ys ++ zs) (sym (at_drop_all F xs i past ∙ none)) ∙ is)

-- the same by the length of what lay before
pub copied-settled : {A : Type 0} (depth first at number : ℕ) (node : Node A) (unseen : Place) (was below new : List Place) → at ≡ first → number ≡ length was
    → below ≡ was ++ unseen ∷ [] ++ map (moved (depth + 1) first) (places_of_all (kids_of node)) → new ≡ set below number (root_place depth at node) → new ≡ was ++ map (moved depth first) (places node)
copied-settled depth first at number node unseen was below new here count is settled =
    settled ∙ (ap (λ (n : ℕ). set below number (root_place depth n node)) here ∙ copied-whole depth first number node unseen was below count is)
