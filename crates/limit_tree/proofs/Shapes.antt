-- The nodes of a tree in preorder have the shape of a tree.
use Rattle.std.proofs.Common.{◌≡◌, ℕ, zero, suc, ◌+◌, ◌<◌, ◌≤◌, ◌*◌, List, [], ◌∷◌, ◌++◌, map, length, length-append, take, sum, refl, sym, ap, ◌∙◌, subst, arith, ◌⊎◌, inl, inr, Option, Some}
use Rattle.std.specs.Prelude.{slice_get}
use Rattle.std.proofs.Math.Seq.{take-append-add}
use Rattle.std.proofs.lemmas.List.{length-map, take-append-le, take-map}
use Rattle.limit_tree.specs.Outline.{leaf_count, leaf_alone, branch_over, deeper, behind, root_place, places, layer_kids, limits}
use Rattle.limit_tree.specs.Flat.{IsRow, IsTreeAt, IsShaped, IsFlat}
use Rattle.std.specs.Option.{option_map}
use Rattle.std.proofs.lemmas.List.Elements.{All-get_or}
use Rattle.limit_tree.specs.Faults.{IsSound, first_fault, first_over}
use Rattle.limit_tree.specs.declared.fault.TreeFault.TheVariants.{FloorsOverLimit}
use Rattle.limit_tree.specs.declared.place.NodeKind.TheVariants.{Branch, Leaf}
use Rattle.limit_tree.specs.declared.place.Place.{Place}
use Rattle.limit_tree.specs.declared.node.Node.{Node}
use Rattle.limit_tree.specs.declared.node.Node.TheOpen.{Node-F}
use Rattle.limit_tree.specs.declared.node.Node.TheOpen.Node-F.{Branch as BranchOf, Leaf as LeafOf}
use Rattle.limit_tree.specs.declared.node.Node.TheViews.{roll-Node}
use Rattle.limit_tree.specs.declared.node.Node.TheFolds.{ind-Node, map-Node}
use Rattle.limit_tree.specs.declared.bounds.TheConstants.{MAX_WANT}
use Rattle.limit_tree.proofs.Leaves.{length-wants_in, sound_leaves, or_else-parts}
use Rattle.limit_tree.proofs.Places.{places_of_all, layer_root, places_roll, own_leaves, leaf_count-append, leaf_count-behind, leaf_count-deeper, leaf_count-cons, leaf_count-beside, length-beside}
use Rattle.limit_tree.proofs.Moves.{moved_out, map_moved-here}
use Rattle.limit_tree.proofs.Nested.{in_map, split_at, InSecond}

pub slice_get-front : {X : Type 0} (xs ys : List X) (k : ℕ) (x : X) → slice_get xs k ≡ Some x → slice_get (xs ++ ys) k ≡ Some x
slice_get-front [] ys k x e = absurd (cc)
slice_get-front (y ∷ xs) ys zero x e = e
slice_get-front (y ∷ xs) ys (suc k) x e = slice_get-front xs ys k x e

slice_get-second : {X : Type 0} (xs ys : List X) (k : ℕ) → slice_get (xs ++ ys) (length xs + k) ≡ slice_get ys k
slice_get-second [] ys k = let e : 0 + k ≡ k = omega arith in ap (slice_get ys) e
slice_get-second (x ∷ xs) ys k = let e : length (x ∷ xs) + k ≡ suc (length xs + k) = omega arith in ap (slice_get (x ∷ xs ++ ys)) e ∙ slice_get-second xs ys k

slice_get-map : (f : Place → Place) (q : List Place) (k : ℕ) (x : Place) → slice_get q k ≡ Some x → slice_get (map f q) k ≡ Some (f x)
slice_get-map f [] k x e = absurd (cc)
slice_get-map f (y ∷ q) zero x e = let same : y ≡ x = cc in ap (λ (z : Place). Some (f z)) same
slice_get-map f (y ∷ q) (suc k) x e = slice_get-map f q k x e

pub row-same : (ps : List Place) (a b f g n l m s t : ℕ) → a ≡ b → f ≡ g → l ≡ m → s ≡ t → IsRow ps a f n l s → IsRow ps b g n m t
row-same ps a b f g n l m s t at first last past row =
    subst (λ (x : ℕ). IsRow ps x g n m t) at (subst (λ (x : ℕ). IsRow ps a x n m t) first (subst (λ (x : ℕ). IsRow ps a f n x t) last (subst (λ (x : ℕ). IsRow ps a f n l x) past row)))

row-front : (p r : List Place) (at first n last past : ℕ) → IsRow p at first n last past → IsRow (p ++ r) at first n last past
row-front p r at first zero last past row = row
row-front p r at first (suc n) last past row = (row.0, slice_get-front p r at row.0 row.1, row.2, row-front p r (at + row.0.nodes) (first + row.0.leaves) n last past row.3)

row-second : (p q : List Place) (c at first n last past : ℕ) → IsRow q at first n last past → IsRow (p ++ map (behind c) q) (length p + at) (c + first) n (length p + last) (c + past)
row-second p q c at first zero last past row = (ap (λ (x : ℕ). length p + x) row.0, ap (λ (x : ℕ). c + x) row.1)
row-second p q c at first (suc n) last past row = (
  behind c row.0,
  slice_get-second p (map (behind c) q) at ∙ slice_get-map (behind c) q at row.0 row.1,
  ap (λ (x : ℕ). c + x) row.2,
  row-same (p ++ map (behind c) q) (length p + (at + row.0.nodes)) (length p + at + row.0.nodes) (c + (first + row.0.leaves)) (c + first + row.0.leaves) n (length p + last) (length p + last) (c + past) (c + past) (omega arith) (omega arith) refl refl
      (row-second p q c (at + row.0.nodes) (first + row.0.leaves) n last past row.3),
)

row-deeper : (root : Place) (q : List Place) (at first n last past : ℕ) → IsRow q at first n last past → IsRow (root ∷ map deeper q) (suc at) first n (suc last) past
row-deeper root q at first zero last past row = (ap suc row.0, row.1)
row-deeper root q at first (suc n) last past row = (
  deeper row.0,
  slice_get-map deeper q at row.0 row.1,
  row.2,
  row-same (root ∷ map deeper q) (suc (at + row.0.nodes)) (suc at + row.0.nodes) (first + row.0.leaves) (first + row.0.leaves) n (suc last) (suc last) past past (omega arith) refl refl refl
      (row-deeper root q (at + row.0.nodes) (first + row.0.leaves) n last past row.3),
)

tree-front : (p r : List Place) (k : ℕ) (x : Place) → k < length p → IsTreeAt p k x → IsTreeAt (p ++ r) k x
tree-front p r k x less tree = record {
  some = tree.some;
  inside = omega (arith, tree.inside, length-append p r);
  first = tree.first ∙ ap leaf_count (sym (take-append-le k p r (omega arith)));
  leaf = tree.leaf;
  branch = λ limit is. row-front p r (k + 1) x.first x.kids (k + x.nodes) (x.first + x.leaves) (tree.branch limit is);
}

tree-second : (p q : List Place) (k : ℕ) (x : Place) → IsTreeAt q k x → IsTreeAt (p ++ map (behind (leaf_count p)) q) (length p + k) (behind (leaf_count p) x)
tree-second p q k x tree =
    let c = leaf_count p in
    record {
      some = tree.some;
      inside = omega (arith, tree.inside, length-append p (map (behind c) q), length-map q (behind c));
      first =
          ap (λ (n : ℕ). c + n) tree.first ∙
          sym (ap leaf_count (take-append-add p (map (behind c) q) k) ∙
          (leaf_count-append p (take k (map (behind c) q)) ∙
          ap (λ (n : ℕ). c + n) (ap leaf_count (take-map (behind c) k q) ∙ leaf_count-behind c (take k q))));
      leaf = tree.leaf;
      branch = λ limit is.
          row-same (p ++ map (behind c) q) (length p + (k + 1)) (length p + k + 1) (c + x.first) (c + x.first) x.kids (length p + (k + x.nodes)) (length p + k + x.nodes) (c + (x.first + x.leaves)) (c + x.first + x.leaves) (omega arith) refl (omega arith) (omega arith)
          (row-second p q c (k + 1) x.first x.kids (k + x.nodes) (x.first + x.leaves) (tree.branch limit is));
    }

tree-deeper : (root : Place) (q : List Place) (k : ℕ) (x : Place) → own_leaves root.kind ≡ 0 → IsTreeAt q k x → IsTreeAt (root ∷ map deeper q) (suc k) (deeper x)
tree-deeper root q k x none tree = record {
  some = tree.some;
  inside = omega (arith, tree.inside, length-map q deeper);
  first =
      tree.first ∙
      (sym (ap leaf_count (take-map deeper k q) ∙ leaf_count-deeper (take k q)) ∙
      (let e : leaf_count (root ∷ take k (map deeper q)) ≡ leaf_count (take k (map deeper q)) = omega (arith, none, leaf_count-cons root (take k (map deeper q))) in sym e));
  leaf = tree.leaf;
  branch = λ limit is.
      row-same (root ∷ map deeper q) (suc (k + 1)) (suc k + 1) x.first x.first x.kids (suc (k + x.nodes)) (suc k + x.nodes) (x.first + x.leaves) (x.first + x.leaves) (omega arith) refl (omega arith) refl
      (row-deeper root q (k + 1) x.first x.kids (k + x.nodes) (x.first + x.leaves) (tree.branch limit is));
}

shaped-pair : (p q : List Place) → IsShaped p → IsShaped q → IsShaped (p ++ map (behind (leaf_count p)) q)
shaped-pair p q in_p in_q k x got = go k x (split_at (behind (leaf_count p)) p q k x got)
  where
    go : (k : ℕ) (x : Place) → ((k < length p) × (slice_get p k ≡ Some x)) ⊎ InSecond (behind (leaf_count p)) p q k x → IsTreeAt (p ++ map (behind (leaf_count p)) q) k x
    go k x (inl l) = tree-front p (map (behind (leaf_count p)) q) k x l.0 (in_p k x l.1)
    go k x (inr r) =
        let all = p ++ map (behind (leaf_count p)) q in
        subst (λ (n : ℕ). IsTreeAt all n x) (sym r.number) (subst (λ (y : Place). IsTreeAt all (length p + r.at) y) (sym r.image) (tree-second p q r.at r.node (in_q r.at r.node r.got)))

shaped-root : (root : Place) (q : List Place) → own_leaves root.kind ≡ 0 → IsTreeAt (root ∷ map deeper q) 0 root → IsShaped q → IsShaped (root ∷ map deeper q)
shaped-root root q none own in_q zero x got = subst (λ (y : Place). IsTreeAt (root ∷ map deeper q) 0 y) (is_root x got) own
  where
    is_root : (x : Place) → slice_get (root ∷ map deeper q) 0 ≡ Some x → root ≡ x
    is_root x got = cc
shaped-root root q none own in_q (suc k) x got =
    let m : (y : Place) × (slice_get q k ≡ Some y) × (x ≡ deeper y) = in_map deeper q k x got in
    subst (λ (y : Place). IsTreeAt (root ∷ map deeper q) (suc k) y) (sym m.2) (tree-deeper root q k m.0 none (in_q k m.0 m.1))

shaped-nothing : IsShaped []
shaped-nothing k x got = absurd (cc)

-- the root of a tree comes first
pub root_first : {A : Type 0} (n : Node A) → slice_get (places n) 0 ≡ Some (root_place 0 0 n)
root_first n = ap (λ (ps : List Place). slice_get ps 0) (sym (map_moved-here (places n)) ∙ moved_out 0 0 n)

-- trees side by side are a row
kids-row : {A : Type 0} (kids : List (Node A)) → IsRow (places_of_all kids) 0 0 (length kids) (length (places_of_all kids)) (leaf_count (places_of_all kids))
kids-row [] = (refl, refl)
kids-row (kid ∷ kids) =
    let p = places kid in
    let q = places_of_all kids in
    let all = p ++ map (behind (leaf_count p)) q in (
      root_place 0 0 kid,
      slice_get-front p (map (behind (leaf_count p)) q) 0 (root_place 0 0 kid) (root_first kid),
      refl,
      row-same all (length p + 0) (0 + length p) (leaf_count p + 0) (0 + leaf_count p) (length kids) (length p + length q) (length all) (leaf_count p + leaf_count q) (leaf_count all) (omega arith) (omega arith) (sym (length-beside p (map places kids))) (sym (leaf_count-beside p (map places kids)))
          (row-second p q (leaf_count p) 0 0 (length kids) (length q) (leaf_count q) (kids-row kids)),
    )

shaped-leaf : (want floor : ℕ) → IsShaped (leaf_alone want floor ∷ [])
shaped-leaf want floor zero x got = subst (λ (y : Place). IsTreeAt (leaf_alone want floor ∷ []) 0 y) (is_leaf x got) (record {
  some = omega arith;
  inside = omega arith;
  first = refl;
  leaf = λ want floor is. (refl, refl, refl);
  branch = λ limit is. absurd (not_branch limit is);
})
  where
    is_leaf : (x : Place) → slice_get (leaf_alone want floor ∷ []) 0 ≡ Some x → leaf_alone want floor ≡ x
    is_leaf x got = cc

    not_branch : (limit : Option ℕ) → Leaf want floor ≡ Branch limit → ⊥
    not_branch limit is = cc
shaped-leaf want floor (suc k) x got = absurd (cc)

shaped-branch : {A : Type 0} (limit : Option ℕ) (kids : List (Node A)) → IsShaped (places_of_all kids) → IsShaped (branch_over limit (length kids) (places_of_all kids) ∷ map deeper (places_of_all kids))
shaped-branch limit kids inner =
    let below = places_of_all kids in
    let root = branch_over limit (length kids) below in
    shaped-root root below refl (record {
      some = omega arith;
      inside = omega (arith, length-map below deeper);
      first = refl;
      leaf = λ want floor is. absurd (not_leaf want floor is);
      branch = λ other is.
          row-same (root ∷ map deeper below) 1 (0 + 1) 0 0 (length kids) (suc (length below)) (0 + (1 + length below)) (leaf_count below) (0 + leaf_count below) (omega arith) refl (omega arith) (omega arith)
          (row-deeper root below 0 0 (length kids) (length below) (leaf_count below) (kids-row kids));
    }) inner
  where
    not_leaf : (want floor : ℕ) → Branch limit ≡ Leaf want floor → ⊥
    not_leaf want floor is = cc

abbrev IsShapedTree : {A : Type 0} → Node A → Type 0
IsShapedTree n = IsShaped (places n)

shaped-all : {A : Type 0} (kids : List ((n : Node A) × IsShapedTree n)) → IsShaped (places_of_all (map (λ e. e.0) kids))
shaped-all [] = shaped-nothing
shaped-all (kid ∷ kids) = shaped-pair (places kid.0) (places_of_all (map (λ e. e.0) kids)) kid.1 (shaped-all kids)

abbrev KidsShaped : {A : Type 0} → Node-F A (Node A) → Type 0
KidsShaped x = IsShaped (places_of_all (layer_kids x))

shaped-layer : {A : Type 0} (x : Node-F A (Node A)) → KidsShaped x → IsShaped (layer_root x ∷ map deeper (places_of_all (layer_kids x)))
shaped-layer (LeafOf want floor) kids = shaped-leaf want floor
shaped-layer (BranchOf limit kids) inner = shaped-branch limit kids.items inner

shaped-roll : {A : Type 0} (x : Node-F A (Node A)) → KidsShaped x → IsShapedTree (roll-Node A x)
shaped-roll x kids = subst IsShaped (sym (places_roll x)) (shaped-layer x kids)

pub shaped-tree : {A : Type 0} (n : Node A) → IsShapedTree n
shaped-tree {A} = ind-Node A IsShapedTree (λ x y is. shaped-roll x (subst KidsShaped is (elim y as (λ z. KidsShaped (map-Node A ((n : Node A) × IsShapedTree n) (Node A) (λ e. e.0) z)) [ LeafOf want floor ↦ shaped-nothing | BranchOf limit kids ↦ shaped-all kids.items ])))

-- a tree without a fault, as its nodes
pub flat-sound : {A : Type 0} (n : Node A) (nodes leaves : ℕ) → IsSound (places n) nodes leaves → IsFlat (places n)
flat-sound n nodes leaves sound =
    let outline = places n in
    let wants : length (limits outline).wants ≡ leaf_count outline = length-wants_in outline in
    record {
      shaped = shaped-tree n;
      root = (root_place 0 0 n, root_first n, refl, (omega arith, omega (arith, wants)));
      few_nodes = omega (arith, sound.nodes_are, sound.few_nodes);
      few_leaves = omega (arith, sound.wants_are, sound.few_leaves);
      few_octets = subst (λ (m : ℕ). sum (limits outline).wants ≤ m * MAX_WANT) sound.wants_are sound.few_octets;
      few_each = λ i less. All-get_or (λ (w : ℕ). w ≤ MAX_WANT) (limits outline).wants i 0 less (sound_leaves 0 0 0 outline (or_else-parts (first_fault 0 0 0 outline) (option_map FloorsOverLimit (first_over 0 outline)) sound.sound).0).most;
      bounded = λ k p got. omega (arith, sound.bounded k p got, sound.wants_are);
      limit_tree = sound.limit_tree;
      later = sound.later;
    }
