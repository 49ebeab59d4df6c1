-- The ranges of leaves in a tree are nested, and a later node lies inside an earlier one or behind it; the
-- floors of a node are those of its range.
use Rattle.std.proofs.Common.{◌≡◌, ℕ, zero, suc, ◌+◌, ◌<◌, ◌≤◌, true, List, [], ◌∷◌, ◌++◌, map, length, length-drop, take, drop, sum, refl, sym, ap, ◌∙◌, subst, arith, ◌⊎◌, inl, inr, Option, Some, None}
use Rattle.std.specs.Prelude.{slice_get}
use Rattle.std.specs.Option.{option_and_then}
use Rattle.std.proofs.lemmas.Bool.{and_parts, and_from, leb-true, ltb-true, le-leb, lt-ltb, cases_lt}
use Rattle.std.proofs.lemmas.List.{take-append-le, drop-append-le, take_all}
use Rattle.std.proofs.lemmas.List.Elements.{filter_map-append}
use Rattle.std.proofs.Math.Seq.{drop-append-add}
use Rattle.std.proofs.lemmas.Option.{slice_get_past}
use Rattle.limit_tree.specs.Sharing.{Branch as SharedBranch, IsBranch, HasNestedBranches, IsInside}
use Rattle.limit_tree.specs.Outline.{leaf_count, leaf_floor, leaf_range, branch_of, limits, deeper, behind, places, layer_kids, leaf_alone, branch_over}
use Rattle.limit_tree.specs.Laws.{LaterIsInside}
use Rattle.limit_tree.specs.declared.place.NodeKind.{NodeKind}
use Rattle.limit_tree.specs.declared.place.NodeKind.TheVariants.{Branch, Leaf}
use Rattle.limit_tree.specs.declared.place.Place.{Place}
use Rattle.limit_tree.specs.declared.node.Node.{Node}
use Rattle.limit_tree.specs.declared.node.Node.TheOpen.{Node-F}
use Rattle.limit_tree.specs.declared.node.Node.TheOpen.Node-F.{Branch as BranchOf, Leaf as LeafOf}
use Rattle.limit_tree.specs.declared.node.Node.TheViews.{roll-Node}
use Rattle.limit_tree.specs.declared.node.Node.TheFolds.{ind-Node, map-Node}
use Rattle.limit_tree.proofs.Places.{places_of_all, layer_root, places_roll, leaf_count-append, leaf_count-behind, leaf_count-deeper, leaf_count-cons}
use Rattle.limit_tree.proofs.Leaves.{length-wants_in, floors_in, floors_in-behind, floors_in-deeper, length-floors_in, sum-floors_in}

-- the leaves of b are among those of a, or behind them
abbrev Follows : Place → Place → Type 0
Follows a b = ((a.first ≤ b.first) × (b.first + b.leaves ≤ a.first + a.leaves)) ⊎ (a.first + a.leaves ≤ b.first)

pub record IsOrdered (ps : List Place) (most : ℕ) : Type 0 where
  pub follows : (j k : ℕ) (a b : Place) → slice_get ps j ≡ Some a → slice_get ps k ≡ Some b → j ≤ k → Follows a b
  pub bounded : (k : ℕ) (a : Place) → slice_get ps k ≡ Some a → a.first + a.leaves ≤ most

-- a node of two lists side by side is in the first, or the image of one in the second
pub record InSecond (f : Place → Place) (p q : List Place) (k : ℕ) (x : Place) : Type 0 where
  pub at : ℕ
  pub node : Place
  pub number : k ≡ length p + at
  pub got : slice_get q at ≡ Some node
  pub image : x ≡ f node

pub in_map : (f : Place → Place) (q : List Place) (k : ℕ) (x : Place) → slice_get (map f q) k ≡ Some x → (y : Place) × (slice_get q k ≡ Some y) × (x ≡ f y)
in_map f [] k x e = absurd (cc)
in_map f (y ∷ q) zero x e = (y, refl, cc)
in_map f (y ∷ q) (suc k) x e = in_map f q k x e

pub split_at : (f : Place → Place) (p q : List Place) (k : ℕ) (x : Place) → slice_get (p ++ map f q) k ≡ Some x → ((k < length p) × (slice_get p k ≡ Some x)) ⊎ InSecond f p q k x
split_at f [] q k x e = let m : (y : Place) × (slice_get q k ≡ Some y) × (x ≡ f y) = in_map f q k x e in inr (record { at = k; node = m.0; number = omega arith; got = m.1; image = m.2 })
split_at f (y ∷ p) q zero x e = inl (omega arith, e)
split_at f (y ∷ p) q (suc k) x e = elim (split_at f p q k x e) [
  | inl l ↦ inl (let less : k < length p = l.0 in omega arith, l.1)
  | inr r ↦ inr (record { at = r.at; node = r.node; number = let n : k ≡ length p + r.at = r.number in omega arith; got = r.got; image = r.image })
]

follows-behind : (n : ℕ) (a b : Place) → Follows a b → Follows (behind n a) (behind n b)
follows-behind n a b (inl h) = inl (let l : a.first ≤ b.first = h.0 in omega arith, let r : b.first + b.leaves ≤ a.first + a.leaves = h.1 in omega arith)
follows-behind n a b (inr h) = inr (omega arith)

ordered-pair : (p q : List Place) → IsOrdered p (leaf_count p) → IsOrdered q (leaf_count q) → IsOrdered (p ++ map (behind (leaf_count p)) q) (leaf_count p + leaf_count q)
ordered-pair p q in_p in_q = record {
  follows = λ j k a b ga gb le. go j k a b le (split_at (behind (leaf_count p)) p q j a ga) (split_at (behind (leaf_count p)) p q k b gb);
  bounded = λ k a got. elim (split_at (behind (leaf_count p)) p q k a got) [
    | inl l ↦ let most : a.first + a.leaves ≤ leaf_count p = in_p.bounded k a l.1 in omega arith
    | inr r ↦ let most : r.node.first + r.node.leaves ≤ leaf_count q = in_q.bounded r.at r.node r.got in subst (λ (x : Place). x.first + x.leaves ≤ leaf_count p + leaf_count q) (sym r.image) (omega arith)
  ];
}
  where
    go : (j k : ℕ) (a b : Place) → j ≤ k → ((j < length p) × (slice_get p j ≡ Some a)) ⊎ InSecond (behind (leaf_count p)) p q j a → ((k < length p) × (slice_get p k ≡ Some b)) ⊎ InSecond (behind (leaf_count p)) p q k b → Follows a b
    go j k a b le (inl l) (inl r) = in_p.follows j k a b l.1 r.1 le
    go j k a b le (inl l) (inr r) = let most : a.first + a.leaves ≤ leaf_count p = in_p.bounded j a l.1 in subst (λ (x : Place). Follows a x) (sym r.image) (inr (omega arith))
    go j k a b le (inr l) (inl r) = let n : j ≡ length p + l.at = l.number in let m : k < length p = r.0 in absurd (omega arith)
    go j k a b le (inr l) (inr r) =
        let n : j ≡ length p + l.at = l.number in
        let m : k ≡ length p + r.at = r.number in
        let inner : Follows l.node r.node = in_q.follows l.at r.at l.node r.node l.got r.got (omega arith) in
        subst (λ (x : Place). Follows x b) (sym l.image) (subst (λ (y : Place). Follows (behind (leaf_count p) l.node) y) (sym r.image) (follows-behind (leaf_count p) l.node r.node inner))

abbrev IsOrderedTree : {A : Type 0} → Node A → Type 0
IsOrderedTree n = IsOrdered (places n) (leaf_count (places n))

-- of no nodes, whatever follows
ordered-past : {most : ℕ} → IsOrdered [] most
ordered-past = record { follows = λ j k a b ga gb le. absurd (cc); bounded = λ k a got. absurd (cc) }

ordered-nothing : IsOrdered [] 0
ordered-nothing = record { follows = λ j k a b ga gb le. absurd (cc); bounded = λ k a got. absurd (cc) }

ordered-all : {A : Type 0} (kids : List ((n : Node A) × IsOrderedTree n)) → IsOrdered (places_of_all (map (λ e. e.0) kids)) (leaf_count (places_of_all (map (λ e. e.0) kids)))
ordered-all [] = ordered-nothing
ordered-all (kid ∷ kids) =
    let rest = places_of_all (map (λ e. e.0) kids) in
    subst (λ (m : ℕ). IsOrdered (places kid.0 ++ map (behind (leaf_count (places kid.0))) rest) m)
    (ap (λ (x : ℕ). leaf_count (places kid.0) + x) (sym (leaf_count-behind (leaf_count (places kid.0)) rest)) ∙ sym (leaf_count-append (places kid.0) (map (behind (leaf_count (places kid.0))) rest)))
    (ordered-pair (places kid.0) rest kid.1 (ordered-all kids))

-- under a root that has all the leaves
ordered-root : (root : Place) (q : List Place) (most : ℕ) → root.first ≡ 0 → root.leaves ≡ most → IsOrdered q most → IsOrdered (root ∷ map deeper q) most
ordered-root root q most first leaves in_q = record { follows = go; bounded = bound }
  where
    go : (j k : ℕ) (a b : Place) → slice_get (root ∷ map deeper q) j ≡ Some a → slice_get (root ∷ map deeper q) k ≡ Some b → j ≤ k → Follows a b
    go zero zero a b ga gb le = let same : a ≡ b = cc in subst (λ (x : Place). Follows a x) same (inl (omega arith, omega arith))
    go zero (suc k) a b ga gb le =
        let m : (y : Place) × (slice_get q k ≡ Some y) × (b ≡ deeper y) = in_map deeper q k b gb in
        let most_of : m.0.first + m.0.leaves ≤ most = in_q.bounded k m.0 m.1 in
        let is_root : root ≡ a = cc in
        subst (λ (x : Place). Follows a x) (sym m.2) (subst (λ (x : Place). Follows x (deeper m.0)) is_root (inl (omega arith, omega arith)))
    go (suc j) zero a b ga gb le = absurd (omega arith)
    go (suc j) (suc k) a b ga gb le =
        let l : (y : Place) × (slice_get q j ≡ Some y) × (a ≡ deeper y) = in_map deeper q j a ga in
        let r : (y : Place) × (slice_get q k ≡ Some y) × (b ≡ deeper y) = in_map deeper q k b gb in
        let inner : Follows l.0 r.0 = in_q.follows j k l.0 r.0 l.1 r.1 (omega arith) in
        subst (λ (x : Place). Follows x b) (sym l.2) (subst (λ (x : Place). Follows (deeper l.0) x) (sym r.2) inner)

    bound : (k : ℕ) (a : Place) → slice_get (root ∷ map deeper q) k ≡ Some a → a.first + a.leaves ≤ most
    bound zero a got = let is_root : root ≡ a = cc in subst (λ (x : Place). x.first + x.leaves ≤ most) is_root (omega arith)
    bound (suc k) a got =
        let m : (y : Place) × (slice_get q k ≡ Some y) × (a ≡ deeper y) = in_map deeper q k a got in
        let most_of : m.0.first + m.0.leaves ≤ most = in_q.bounded k m.0 m.1 in
        subst (λ (x : Place). x.first + x.leaves ≤ most) (sym m.2) (omega arith)

abbrev KidsOrdered : {A : Type 0} → Node-F A (Node A) → Type 0
KidsOrdered x = IsOrdered (places_of_all (layer_kids x)) (leaf_count (places_of_all (layer_kids x)))

ordered-layer : {A : Type 0} (x : Node-F A (Node A)) → KidsOrdered x → IsOrdered (layer_root x ∷ map deeper (places_of_all (layer_kids x))) (leaf_count (layer_root x ∷ map deeper (places_of_all (layer_kids x))))
ordered-layer (LeafOf want floor) kids = ordered-root (leaf_alone want floor) [] 1 refl refl ordered-past
ordered-layer (BranchOf limit kids) inner =
    let below = places_of_all kids.items in
    let root = branch_over limit (length kids.items) below in
    let n : leaf_count (root ∷ map deeper below) ≡ leaf_count below = omega (arith, leaf_count-deeper below, leaf_count-cons root (map deeper below)) in
    subst (λ (m : ℕ). IsOrdered (root ∷ map deeper below) m) (sym n) (ordered-root root below (leaf_count below) refl refl inner)

ordered-roll : {A : Type 0} (x : Node-F A (Node A)) → KidsOrdered x → IsOrderedTree (roll-Node A x)
ordered-roll x kids = subst (λ (ps : List Place). IsOrdered ps (leaf_count ps)) (sym (places_roll x)) (ordered-layer x kids)

pub ordered-tree : {A : Type 0} (n : Node A) → IsOrderedTree n
ordered-tree {A} = ind-Node A IsOrderedTree (λ x y is. ordered-roll x (subst KidsOrdered is (elim y as (λ z. KidsOrdered (map-Node A ((n : Node A) × IsOrderedTree n) (Node A) (λ e. e.0) z)) [ LeafOf want floor ↦ ordered-nothing | BranchOf limit kids ↦ ordered-all kids.items ])))

-- the floors of the leaves of a range
abbrev pub floors_of_range : ℕ → ℕ → List ℕ → ℕ
floors_of_range first leaves floors = sum (take leaves (drop first floors))

-- each node has the floors of its range
abbrev pub IsSummed : List Place → Type 0
IsSummed ps = (k : ℕ) (p : Place) → slice_get ps k ≡ Some p → p.floors ≡ floors_of_range p.first p.leaves (floors_in ps)

in_first : (first leaves : ℕ) (fs gs : List ℕ) → first + leaves ≤ length fs → floors_of_range first leaves (fs ++ gs) ≡ floors_of_range first leaves fs
in_first first leaves fs gs fits =
    ap (λ (xs : List ℕ). sum (take leaves xs)) (drop-append-le first fs gs (omega arith)) ∙
    ap sum (take-append-le leaves (drop first fs) gs (omega (arith, length-drop first fs)))

in_second : (first leaves : ℕ) (fs gs : List ℕ) → floors_of_range (length fs + first) leaves (fs ++ gs) ≡ floors_of_range first leaves gs
in_second first leaves fs gs = ap (λ (xs : List ℕ). sum (take leaves xs)) (drop-append-add fs gs first)

floors_in-pair : (p q : List Place) → floors_in (p ++ map (behind (leaf_count p)) q) ≡ floors_in p ++ floors_in q
floors_in-pair p q =
    filter_map-append (λ (x : Place). leaf_floor x.kind) p (map (behind (leaf_count p)) q) ∙
    ap (λ (fs : List ℕ). floors_in p ++ fs) (floors_in-behind (leaf_count p) q)

summed-pair : (p q : List Place) → IsOrdered p (leaf_count p) → IsSummed p → IsSummed q → IsSummed (p ++ map (behind (leaf_count p)) q)
summed-pair p q ordered in_p in_q = λ k x got. subst (λ (fs : List ℕ). x.floors ≡ floors_of_range x.first x.leaves fs) (sym (floors_in-pair p q)) (go k x (split_at (behind (leaf_count p)) p q k x got))
  where
    go : (k : ℕ) (x : Place) → ((k < length p) × (slice_get p k ≡ Some x)) ⊎ InSecond (behind (leaf_count p)) p q k x → x.floors ≡ floors_of_range x.first x.leaves (floors_in p ++ floors_in q)
    go k x (inl l) =
        let fits : x.first + x.leaves ≤ leaf_count p = ordered.bounded k x l.1 in
        in_p k x l.1 ∙ sym (in_first x.first x.leaves (floors_in p) (floors_in q) (omega (arith, length-floors_in p)))
    go k x (inr r) =
        let size : leaf_count p + r.node.first ≡ length (floors_in p) + r.node.first = omega (arith, length-floors_in p) in
        subst (λ (y : Place). y.floors ≡ floors_of_range y.first y.leaves (floors_in p ++ floors_in q)) (sym r.image)
        (in_q r.at r.node r.got ∙ (sym (in_second r.node.first r.node.leaves (floors_in p) (floors_in q)) ∙
        ap (λ (n : ℕ). floors_of_range n r.node.leaves (floors_in p ++ floors_in q)) (sym size)))

summed-root : (root : Place) (q : List Place) → root.floors ≡ floors_of_range root.first root.leaves (floors_in (root ∷ map deeper q)) → floors_in (root ∷ map deeper q) ≡ floors_in q → IsSummed q → IsSummed (root ∷ map deeper q)
summed-root root q own same in_q zero x got = subst (λ (y : Place). y.floors ≡ floors_of_range y.first y.leaves (floors_in (root ∷ map deeper q))) (is_root x got) own
  where
    is_root : (x : Place) → slice_get (root ∷ map deeper q) 0 ≡ Some x → root ≡ x
    is_root x got = cc
summed-root root q own same in_q (suc k) x got =
    let m : (y : Place) × (slice_get q k ≡ Some y) × (x ≡ deeper y) = in_map deeper q k x got in
    subst (λ (y : Place). y.floors ≡ floors_of_range y.first y.leaves (floors_in (root ∷ map deeper q))) (sym m.2)
    (in_q k m.0 m.1 ∙ ap (floors_of_range m.0.first m.0.leaves) (sym same))

abbrev IsSummedTree : {A : Type 0} → Node A → Type 0
IsSummedTree n = IsSummed (places n)

abbrev KidsSummed : {A : Type 0} → Node-F A (Node A) → Type 0
KidsSummed x = IsSummed (places_of_all (layer_kids x))

summed-nothing : IsSummed []
summed-nothing k x got = absurd (cc)

summed-all : {A : Type 0} (kids : List ((n : Node A) × IsSummedTree n)) → IsSummed (places_of_all (map (λ e. e.0) kids))
summed-all [] = summed-nothing
summed-all (kid ∷ kids) = summed-pair (places kid.0) (places_of_all (map (λ e. e.0) kids)) (ordered-tree kid.0) kid.1 (summed-all kids)

whole_range : (fs : List ℕ) (n : ℕ) → length fs ≡ n → floors_of_range 0 n fs ≡ sum fs
whole_range fs n e = ap sum (take_all n fs (omega arith))

summed-leaf : (want floor : ℕ) → IsSummed (leaf_alone want floor ∷ [])
summed-leaf want floor zero x got = subst (λ (y : Place). y.floors ≡ floors_of_range y.first y.leaves (floor ∷ [])) (is_leaf x got) (omega arith)
  where
    is_leaf : (x : Place) → slice_get (leaf_alone want floor ∷ []) 0 ≡ Some x → leaf_alone want floor ≡ x
    is_leaf x got = cc
summed-leaf want floor (suc k) x got = absurd (cc)

summed-layer : {A : Type 0} (x : Node-F A (Node A)) → KidsSummed x → IsSummed (layer_root x ∷ map deeper (places_of_all (layer_kids x)))
summed-layer (LeafOf want floor) kids = summed-leaf want floor
summed-layer (BranchOf limit kids) inner =
    let below = places_of_all kids.items in
    let root = branch_over limit (length kids.items) below in
    let own : root.floors ≡ floors_of_range 0 (leaf_count below) (floors_in (map deeper below)) =
    sym (ap (floors_of_range 0 (leaf_count below)) (floors_in-deeper below) ∙ (whole_range (floors_in below) (leaf_count below) (length-floors_in below) ∙ sum-floors_in below)) in
    summed-root root below own (floors_in-deeper below) inner

summed-roll : {A : Type 0} (x : Node-F A (Node A)) → KidsSummed x → IsSummedTree (roll-Node A x)
summed-roll x kids = subst IsSummed (sym (places_roll x)) (summed-layer x kids)

pub summed-tree : {A : Type 0} (n : Node A) → IsSummedTree n
summed-tree {A} = ind-Node A IsSummedTree (λ x y is. summed-roll x (subst KidsSummed is (elim y as (λ z. KidsSummed (map-Node A ((n : Node A) × IsSummedTree n) (Node A) (λ e. e.0) z)) [ LeafOf want floor ↦ summed-nothing | BranchOf limit kids ↦ summed-all kids.items ])))

pub range_of : (k : NodeKind) (first leaves : ℕ) (b : SharedBranch) → branch_of k first leaves ≡ Some b → ((i : ℕ) → b.holds i ≡ leaf_range first leaves i) × ((k ≡ Branch b.limit))
range_of (Leaf want floor) first leaves b e = absurd (cc)
range_of (Branch limit) first leaves b e = (λ i. ap (λ (o : SharedBranch). o.holds i) (sym (some_same e)), ap (λ (o : SharedBranch). Branch o.limit) (some_same e))
  where
    some_same : {X : Type 0} {x y : X} → Some x ≡ Some y → x ≡ y
    some_same e = cc

-- a branch's place, and its leaves
pub record IsPlaceOf (outline : List Place) (k : ℕ) (b : SharedBranch) : Type 0 where
  pub place : Place
  pub found : slice_get outline k ≡ Some place
  pub kind : place.kind ≡ Branch b.limit
  pub holds : (i : ℕ) → b.holds i ≡ leaf_range place.first place.leaves i

pub branch_place : (outline : List Place) (k : ℕ) (b : SharedBranch) → IsBranch (limits outline) k b → IsPlaceOf outline k b
branch_place outline k b is = go (slice_get outline k) refl is
  where
    go : (o : Option Place) → slice_get outline k ≡ o → option_and_then (λ p. branch_of p.kind p.first p.leaves) o ≡ Some b → IsPlaceOf outline k b
    go None got e = absurd (cc)
    go (Some p) got e = let range = range_of p.kind p.first p.leaves b e in record { place = p; found = got; kind = range.1; holds = range.0 }

pub in_range : (first leaves i : ℕ) → leaf_range first leaves i ≡ true → (first ≤ i) × (i < first + leaves)
in_range first leaves i h = let both = and_parts _ _ h in (leb-true first i both.0, ltb-true i (first + leaves) both.1)

to_range : (first leaves i : ℕ) → first ≤ i → i < first + leaves → leaf_range first leaves i ≡ true
to_range first leaves i low high = and_from _ _ (le-leb first i low) (lt-ltb i (first + leaves) high)

follows-sets : (a b : Place) → Follows a b → ((i : ℕ) → leaf_range b.first b.leaves i ≡ true → leaf_range a.first a.leaves i ≡ true) ⊎ ((i : ℕ) → leaf_range a.first a.leaves i ≡ true → leaf_range b.first b.leaves i ≡ true → ⊥)
follows-sets a b (inl h) = inl (λ i m. let r = in_range b.first b.leaves i m in to_range a.first a.leaves i (let x : a.first ≤ b.first = h.0 in let y : b.first ≤ i = r.0 in omega arith) (let x : b.first + b.leaves ≤ a.first + a.leaves = h.1 in let y : i < b.first + b.leaves = r.1 in omega arith))
follows-sets a b (inr h) = inr (λ i m n. let r = in_range a.first a.leaves i m in let s = in_range b.first b.leaves i n in let x : i < a.first + a.leaves = r.1 in let y : b.first ≤ i = s.0 in absurd (omega arith))

-- of two branches the later lies inside the earlier, or they share no leaf
later_inside : (outline : List Place) → IsOrdered outline (leaf_count outline) → (j k : ℕ) (a b : SharedBranch) → IsBranch (limits outline) j a → IsBranch (limits outline) k b → j ≤ k → IsInside b.holds a.holds ⊎ ((i : ℕ) → a.holds i ≡ true → b.holds i ≡ true → ⊥)
later_inside outline ordered j k a b is_a is_b le =
    let p = branch_place outline j a is_a in
    let q = branch_place outline k b is_b in
    elim (follows-sets p.place q.place (ordered.follows j k p.place q.place p.found q.found le)) [
      | inl inside ↦ inl (λ i h. p.holds i ∙ inside i (sym (q.holds i) ∙ h))
      | inr apart ↦ inr (λ i h g. apart i (sym (p.holds i) ∙ h) (sym (q.holds i) ∙ g))
    ]

pub later_is_inside : (outline : List Place) → IsOrdered outline (leaf_count outline) → LaterIsInside (limits outline)
later_is_inside outline ordered j k i a b is_a is_b le h g =
    elim (later_inside outline ordered j k a b is_a is_b le) [ inl inside ↦ inside | inr apart ↦ absurd (apart i h g) ]

-- the branches of a tree are nested
pub branches_are_nested : (outline : List Place) → IsOrdered outline (leaf_count outline) → HasNestedBranches (limits outline)
branches_are_nested outline ordered = record {
  numbers = length outline;
  finite = λ k past. ap (option_and_then (λ p. branch_of p.kind p.first p.leaves)) (slice_get_past outline k past);
  leaves = λ k i b is h.
      let p = branch_place outline k b is in
      let most : p.place.first + p.place.leaves ≤ leaf_count outline = ordered.bounded k p.place p.found in
      let r = in_range p.place.first p.place.leaves i (sym (p.holds i) ∙ h) in
      let high : i < p.place.first + p.place.leaves = r.1 in
      omega (arith, length-wants_in outline);
  nested = λ j k a b is_a is_b. elim (cases_lt k j) [
    | inl later ↦ elim (later_inside outline ordered k j b a is_b is_a (omega arith)) [ inl inside ↦ inl inside | inr apart ↦ inr (inr (λ i h g. apart i g h)) ]
    | inr later ↦ elim (later_inside outline ordered j k a b is_a is_b later) [ inl inside ↦ inr (inl inside) | inr apart ↦ inr (inr apart) ]
  ];
}
