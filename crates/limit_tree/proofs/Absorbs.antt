-- What trees take in up to a level: a stack of one element for each tree, as large as their wants at most.
use Rattle.std.proofs.Common.{◌≡◌, ℕ, zero, suc, ◌+◌, ◌<◌, ◌≤◌, List, [], ◌∷◌, ◌++◌, map, length, get_or, take, drop, min, max, sum, sum_by, refl, sym, ap, ◌∙◌, subst, arith, length-append, length-drop, Option, Some, None}
use Rattle.std.specs.List.{cons_option}
use Rattle.std.proofs.Math.Nat.{min-le_left}
use Rattle.std.proofs.Math.Seq.{take-length, drop-length, drop-append-add}
use Rattle.std.proofs.lemmas.List.{length-map, drop-map, take-append-le, drop-append-le, drop_all}
use Rattle.std.proofs.lemmas.List.Elements.{filter_map-append}
use Rattle.std.proofs.lemmas.List.Sums.{sum-map, sum_by-cons, sum_by-append, sum_by-take-drop, sum_by-drop_more}
use Rattle.limit_tree.specs.Outline.{deeper, behind, places, layer_kind, layer_kids, kind_of, kids_of, leaf_count, leaf_want, cut, absorb_step, absorb_stack, absorbed, first_or_zero}
use Rattle.limit_tree.specs.declared.place.NodeKind.{NodeKind}
use Rattle.limit_tree.specs.declared.place.NodeKind.TheVariants.{Branch, Leaf}
use Rattle.limit_tree.specs.declared.place.Place.{Place}
use Rattle.limit_tree.specs.declared.node.Node.{Node}
use Rattle.limit_tree.specs.declared.node.Node.TheOpen.{Node-F}
use Rattle.limit_tree.specs.declared.node.Node.TheOpen.Node-F.{Branch as BranchOf, Leaf as LeafOf}
use Rattle.limit_tree.specs.declared.node.Node.TheViews.{out-Node, roll-Node, roll-out-Node}
use Rattle.limit_tree.specs.declared.node.Node.TheFolds.{ind-Node, map-Node}
use Rattle.limit_tree.proofs.Leaves.{wants_in}
use Rattle.limit_tree.proofs.Places.{places_of_all, places_of_all-drop, layer_root, places_roll, places_out}

-- only the kinds of nodes and their kids decide
pub stack-behind : (level n : ℕ) (q : List Place) → absorb_stack level (map (behind n) q) ≡ absorb_stack level q
stack-behind level n [] = refl
stack-behind level n (x ∷ q) = ap (absorb_step level x.kids x.kind) (stack-behind level n q)

pub stack-deeper : (level : ℕ) (q : List Place) → absorb_stack level (map deeper q) ≡ absorb_stack level q
stack-deeper level [] = refl
stack-deeper level (x ∷ q) = ap (absorb_step level x.kids x.kind) (stack-deeper level q)

-- each node finds its kids on the stack
abbrev pub HasKids : ℕ → List Place → Type 0
HasKids level [] = Unit {0}
HasKids level (x ∷ ps) = (x.kids ≤ length (absorb_stack level ps)) × HasKids level ps

has_kids-behind : (level n : ℕ) (q : List Place) → HasKids level q → HasKids level (map (behind n) q)
has_kids-behind level n [] has = tt
has_kids-behind level n (x ∷ q) has = (subst (λ (s : List ℕ). x.kids ≤ length s) (sym (stack-behind level n q)) has.0, has_kids-behind level n q has.1)

has_kids-deeper : (level : ℕ) (q : List Place) → HasKids level q → HasKids level (map deeper q)
has_kids-deeper level [] has = tt
has_kids-deeper level (x ∷ q) has = (subst (λ (s : List ℕ). x.kids ≤ length s) (sym (stack-deeper level q)) has.0, has_kids-deeper level q has.1)

pub has_kids-drop : (level m : ℕ) (ps : List Place) → HasKids level ps → HasKids level (drop m ps)
has_kids-drop level zero ps has = has
has_kids-drop level (suc m) [] has = tt
has_kids-drop level (suc m) (x ∷ ps) has = has_kids-drop level m ps has.1

step-append : (level kids : ℕ) (kind : NodeKind) (s r : List ℕ) → kids ≤ length s → absorb_step level kids kind (s ++ r) ≡ absorb_step level kids kind s ++ r
step-append level kids (Leaf want floor) s r has = refl
step-append level kids (Branch limit) s r has =
    ap (λ (xs : List ℕ). cut limit (sum xs) ∷ drop kids (s ++ r)) (take-append-le kids s r has) ∙
    ap (λ (xs : List ℕ). cut limit (sum (take kids s)) ∷ xs) (drop-append-le kids s r has)

-- whatever follows stays below on the stack
pub stack-append : (level : ℕ) (p q : List Place) → HasKids level p → absorb_stack level (p ++ q) ≡ absorb_stack level p ++ absorb_stack level q
stack-append level [] q has = refl
stack-append level (x ∷ p) q has =
    ap (absorb_step level x.kids x.kind) (stack-append level p q has.1) ∙
    step-append level x.kids x.kind (absorb_stack level p) (absorb_stack level q) has.0

has_kids-append : (level : ℕ) (p q : List Place) → HasKids level p → HasKids level q → HasKids level (p ++ q)
has_kids-append level [] q in_p in_q = in_q
has_kids-append level (x ∷ p) q in_p in_q = (
  subst (λ (s : List ℕ). x.kids ≤ length s) (sym (stack-append level p q in_p.1))
      (let has : x.kids ≤ length (absorb_stack level p) = in_p.0 in omega (arith, length-append (absorb_stack level p) (absorb_stack level q))),
  has_kids-append level p q in_p.1 in_q,
)

-- what a tree takes in
abbrev pub absorb_of : {A : Type 0} → ℕ → Node A → ℕ
absorb_of level n = first_or_zero (absorb_stack level (places n))

-- what a node takes in, from what its kids do
abbrev pub absorb_layer : ℕ → NodeKind → ℕ → ℕ
absorb_layer level (Leaf want floor) below = min want (max floor level)
absorb_layer level (Branch limit) below = cut limit below

-- a tree becomes one element of the stack
record IsWhole {A : Type 0} (level : ℕ) (n : Node A) : Type 0 where
  has : HasKids level (places n)
  one : absorb_stack level (places n) ≡ absorb_of level n ∷ []

record AreWhole {A : Type 0} (level : ℕ) (kids : List (Node A)) : Type 0 where
  has : HasKids level (places_of_all kids)
  each : absorb_stack level (places_of_all kids) ≡ map (absorb_of level) kids

none_whole : {A : Type 0} (level : ℕ) → AreWhole {A = A} level []
none_whole level = record { has = tt; each = refl }

one_more : {A : Type 0} (level : ℕ) (kid : Node A) (kids : List (Node A)) → IsWhole level kid → AreWhole level kids → AreWhole level (kid ∷ kids)
one_more level kid kids whole rest =
    let others = map (behind (leaf_count (places kid))) (places_of_all kids) in
    record {
      has = has_kids-append level (places kid) others whole.has (has_kids-behind level (leaf_count (places kid)) (places_of_all kids) rest.has);
      each =
          stack-append level (places kid) others whole.has ∙
          (ap (λ (s : List ℕ). s ++ absorb_stack level others) whole.one ∙
          ap (λ (s : List ℕ). absorb_of level kid ∷ s) (stack-behind level (leaf_count (places kid)) (places_of_all kids) ∙ rest.each));
    }

all_whole : {A : Type 0} (level : ℕ) (kids : List ((n : Node A) × IsWhole level n)) → AreWhole level (map (λ e. e.0) kids)
all_whole level [] = none_whole level
all_whole level (kid ∷ kids) = one_more level kid.0 (map (λ e. e.0) kids) kid.1 (all_whole level kids)

step-whole : (level kids : ℕ) (limit : Option ℕ) (xs : List ℕ) → kids ≡ length xs → absorb_step level kids (Branch limit) xs ≡ cut limit (sum xs) ∷ []
step-whole level kids limit xs e =
    ap (λ (k : ℕ). cut limit (sum (take k xs)) ∷ drop k xs) e ∙
    (ap (λ (ys : List ℕ). cut limit (sum ys) ∷ drop (length xs) xs) (take-length xs) ∙
    ap (λ (ys : List ℕ). cut limit (sum xs) ∷ ys) (drop-length xs))

stack_layer : {A : Type 0} (level : ℕ) (x : Node-F A (Node A)) → AreWhole level (layer_kids x) → absorb_stack level (layer_root x ∷ map deeper (places_of_all (layer_kids x))) ≡ absorb_layer level (layer_kind x) (sum (map (absorb_of level) (layer_kids x))) ∷ []
stack_layer level (LeafOf want floor) whole = refl
stack_layer level (BranchOf limit kids) whole =
    ap (absorb_step level (length kids.items) (Branch limit)) (stack-deeper level (places_of_all kids.items) ∙ whole.each) ∙
    step-whole level (length kids.items) limit (map (absorb_of level) kids.items) (sym (length-map kids.items (absorb_of level)))

has_kids_layer : {A : Type 0} (level : ℕ) (x : Node-F A (Node A)) → AreWhole level (layer_kids x) → HasKids level (layer_root x ∷ map deeper (places_of_all (layer_kids x)))
has_kids_layer level (LeafOf want floor) whole = (omega arith, tt)
has_kids_layer level (BranchOf limit kids) whole = (
  subst (λ (s : List ℕ). length kids.items ≤ length s) (sym (stack-deeper level (places_of_all kids.items) ∙ whole.each)) (omega (arith, length-map kids.items (absorb_of level))),
  has_kids-deeper level (places_of_all kids.items) whole.has,
)

stack_roll : {A : Type 0} (level : ℕ) (x : Node-F A (Node A)) → AreWhole level (layer_kids x) → absorb_stack level (places (roll-Node A x)) ≡ absorb_layer level (layer_kind x) (sum (map (absorb_of level) (layer_kids x))) ∷ []
stack_roll level x whole = ap (absorb_stack level) (places_roll x) ∙ stack_layer level x whole

whole_roll : {A : Type 0} (level : ℕ) (x : Node-F A (Node A)) → AreWhole level (layer_kids x) → IsWhole level (roll-Node A x)
whole_roll {A} level x whole =
    let below = absorb_layer level (layer_kind x) (sum (map (absorb_of level) (layer_kids x))) in
    record {
      has = subst (HasKids level) (sym (places_roll x)) (has_kids_layer level x whole);
      one = stack_roll level x whole ∙ ap (λ (y : ℕ). y ∷ []) (sym (ap first_or_zero (stack_roll level x whole)));
    }

abbrev KidsWhole : {A : Type 0} → ℕ → Node-F A (Node A) → Type 0
KidsWhole level x = AreWhole level (layer_kids x)

whole_tree : {A : Type 0} (level : ℕ) (n : Node A) → IsWhole level n
whole_tree {A} level = ind-Node A (λ n. IsWhole level n) (λ x y is. whole_roll level x (subst (KidsWhole level) is (elim y as (λ z. KidsWhole level (map-Node A ((n : Node A) × IsWhole level n) (Node A) (λ e. e.0) z)) [ LeafOf want floor ↦ none_whole level | BranchOf limit kids ↦ all_whole level kids.items ])))

trees_whole : {A : Type 0} (level : ℕ) (kids : List (Node A)) → AreWhole level kids
trees_whole level [] = none_whole level
trees_whole level (kid ∷ kids) = one_more level kid kids (whole_tree level kid) (trees_whole level kids)

-- what a tree takes in, from what the trees below its root do
pub absorb_out : {A : Type 0} (level : ℕ) (n : Node A) → absorb_of level n ≡ absorb_layer level (kind_of n) (sum_by (absorb_of level) (kids_of n))
absorb_out {A} level n =
    subst (λ (m : Node A). absorb_of level m ≡ absorb_layer level (kind_of n) (sum (map (absorb_of level) (kids_of n)))) (roll-out-Node A n)
    (ap first_or_zero (stack_roll level (out-Node A n) (trees_whole level (kids_of n)))) ∙
    ap (absorb_layer level (kind_of n)) (sum-map (absorb_of level) (kids_of n))

-- the trees from the i-th kid on
pub absorb_more : {A : Type 0} (level : ℕ) (kids : List (Node A)) (i : ℕ) (kid : Node A) → i < length kids → kid ≡ get_or kids i kid → sum_by (absorb_of level) (drop i kids) ≡ absorb_of level kid + sum_by (absorb_of level) (drop (i + 1) kids)
absorb_more {A} level kids i kid less is = sum_by-drop_more (absorb_of level) kids i kid less ∙ ap (λ (k : Node A). absorb_of level k + sum_by (absorb_of level) (drop (i + 1) kids)) (sym is)

-- behind the last kid the total is whole
pub absorb_total : {A : Type 0} (level : ℕ) (kids : List (Node A)) (i total : ℕ) → length kids ≤ i → total + sum_by (absorb_of level) (drop i kids) ≡ sum_by (absorb_of level) kids → total ≡ sum_by (absorb_of level) kids
absorb_total {A} level kids i total past e =
    let zero : sum_by (absorb_of level) (drop i kids) ≡ 0 = ap (sum_by (absorb_of level)) (drop_all i kids past) in
    omega arith

-- what a branch takes in, from the total over its kids
pub absorb_branch : {A : Type 0} (level : ℕ) (n : Node A) (limit : Option ℕ) (below total taken : ℕ) → absorb_of level n ≡ cut limit below → total ≡ below → taken ≡ cut limit total → taken ≡ absorb_of level n
absorb_branch level n limit below total taken out whole cuts = cuts ∙ (ap (cut limit) whole ∙ sym out)

-- what a node takes in does not depend on what follows its tree
first-append : (level : ℕ) (ps : List Place) (s : List ℕ) → 0 < length ps → first_or_zero (absorb_stack level ps ++ s) ≡ first_or_zero (absorb_stack level ps)
first-append level [] s some = absurd (omega arith)
first-append level (x ∷ ps) s some = go x.kind
  where
    go : (k : NodeKind) → first_or_zero (absorb_step level x.kids k (absorb_stack level ps) ++ s) ≡ first_or_zero (absorb_step level x.kids k (absorb_stack level ps))
    go (Leaf want floor) = refl
    go (Branch limit) = refl

absorbed-first : (level : ℕ) (p q : List Place) (k : ℕ) → HasKids level p → k < length p → absorbed level (p ++ q) k ≡ absorbed level p k
absorbed-first level p q k has less =
    ap (λ (ps : List Place). first_or_zero (absorb_stack level ps)) (drop-append-le k p q (omega arith)) ∙
    (ap first_or_zero (stack-append level (drop k p) q (has_kids-drop level k p has)) ∙
    first-append level (drop k p) (absorb_stack level q) (omega (arith, length-drop k p)))

absorbed-behind : (level n : ℕ) (q : List Place) (k : ℕ) → absorbed level (map (behind n) q) k ≡ absorbed level q k
absorbed-behind level n q k = ap (λ (ps : List Place). first_or_zero (absorb_stack level ps)) (drop-map (behind n) k q) ∙ ap first_or_zero (stack-behind level n (drop k q))

absorbed-deeper : (level : ℕ) (q : List Place) (k : ℕ) → absorbed level (map deeper q) k ≡ absorbed level q k
absorbed-deeper level q k = ap (λ (ps : List Place). first_or_zero (absorb_stack level ps)) (drop-map deeper k q) ∙ ap first_or_zero (stack-deeper level (drop k q))

-- a node inside a kid
pub absorbed_kid : {A : Type 0} (level : ℕ) (kids : List (Node A)) (i : ℕ) (kid : Node A) (k : ℕ) → i < length kids → kid ≡ get_or kids i kid → k < length (places kid) → absorbed level (places_of_all (drop i kids)) k ≡ absorbed level (places kid) k
absorbed_kid level kids i kid k less is inside =
    ap (λ (ps : List Place). absorbed level ps k) (places_of_all-drop kids i kid less is) ∙
    absorbed-first level (places kid) (map (behind (leaf_count (places kid))) (places_of_all (drop (i + 1) kids))) k (whole_tree level kid).has inside

-- a node behind a kid
pub absorbed_past_kid : {A : Type 0} (level : ℕ) (kids : List (Node A)) (i : ℕ) (kid : Node A) (k j octets : ℕ) → i < length kids → kid ≡ get_or kids i kid → k ≡ length (places kid) + j → octets ≡ absorbed level (places_of_all (drop i kids)) k → octets ≡ absorbed level (places_of_all (drop (i + 1) kids)) j
absorbed_past_kid level kids i kid k j octets less is past same =
    let others = places_of_all (drop (i + 1) kids) in
    let moved = map (behind (leaf_count (places kid))) others in
    same ∙
    (ap (λ (ps : List Place). absorbed level ps k) (places_of_all-drop kids i kid less is) ∙
    (ap (absorbed level (places kid ++ moved)) past ∙
    (ap (λ (ps : List Place). first_or_zero (absorb_stack level ps)) (drop-append-add (places kid) moved j) ∙
    absorbed-behind level (leaf_count (places kid)) others j)))

-- a node below the root
pub absorbed_below : {A : Type 0} (level : ℕ) (n : Node A) (k j : ℕ) → k ≡ suc j → absorbed level (places n) k ≡ absorbed level (places_of_all (kids_of n)) j
absorbed_below {A} level n k j below =
    ap (absorbed level (places n)) below ∙
    (ap (λ (ps : List Place). absorbed level ps (suc j)) (places_out n) ∙
    absorbed-deeper level (places_of_all (kids_of n)) j)

-- the wants of trees side by side, and below a root
pub sum_wants-cons : (x : Place) (ps : List Place) → sum (wants_in ps) ≤ sum (wants_in (x ∷ ps))
sum_wants-cons x ps = go x.kind
  where
    go : (k : NodeKind) → sum (wants_in ps) ≤ sum (cons_option (leaf_want k) (wants_in ps))
    go (Branch limit) = omega arith
    go (Leaf want floor) = omega (arith, sum_by-cons (λ x. x) want (wants_in ps))

pub wants_in-behind : (n : ℕ) (p : List Place) → wants_in (map (behind n) p) ≡ wants_in p
wants_in-behind n [] = refl
wants_in-behind n (x ∷ p) = ap (cons_option (leaf_want x.kind)) (wants_in-behind n p)

pub wants_in-deeper : (p : List Place) → wants_in (map deeper p) ≡ wants_in p
wants_in-deeper [] = refl
wants_in-deeper (x ∷ p) = ap (cons_option (leaf_want x.kind)) (wants_in-deeper p)

pub sum_wants_more : {A : Type 0} (kids : List (Node A)) (i : ℕ) (kid : Node A) → i < length kids → kid ≡ get_or kids i kid → sum (wants_in (places_of_all (drop i kids))) ≡ sum (wants_in (places kid)) + sum (wants_in (places_of_all (drop (i + 1) kids)))
sum_wants_more kids i kid less is =
    let others = places_of_all (drop (i + 1) kids) in
    let moved = map (behind (leaf_count (places kid))) others in
    ap (λ (ps : List Place). sum (wants_in ps)) (places_of_all-drop kids i kid less is) ∙
    (ap sum (filter_map-append (λ (x : Place). leaf_want x.kind) (places kid) moved) ∙
    (sum_by-append (λ x. x) (wants_in (places kid)) (wants_in moved) ∙
    ap (λ (ws : List ℕ). sum (wants_in (places kid)) + sum ws) (wants_in-behind (leaf_count (places kid)) others)))

pub sum_wants_below : {A : Type 0} (n : Node A) → sum (wants_in (places_of_all (kids_of n))) ≤ sum (wants_in (places n))
sum_wants_below {A} n =
    let below = places_of_all (kids_of n) in
    subst (λ (ps : List Place). sum (wants_in below) ≤ sum (wants_in ps)) (sym (places_out n))
    (let same : sum (wants_in (map deeper below)) ≡ sum (wants_in below) = ap sum (wants_in-deeper below) in
    omega (arith, sum_wants-cons (layer_root (out-Node A n)) (map deeper below)))

-- no tree takes in more than its leaves want
step-wants : (level kids : ℕ) (k : NodeKind) (s ws : List ℕ) → sum s ≤ sum ws → sum (absorb_step level kids k s) ≤ sum (cons_option (leaf_want k) ws)
step-wants level kids (Leaf want floor) s ws most =
    omega (arith, most, min-le_left want (max floor level), sum_by-cons (λ x. x) want ws, sum_by-cons (λ x. x) (min want (max floor level)) s)
step-wants level kids (Branch None) s ws most =
    omega (arith, most, sum_by-take-drop (λ x. x) s kids, sum_by-cons (λ x. x) (sum (take kids s)) (drop kids s))
step-wants level kids (Branch (Some limit)) s ws most =
    omega (arith, most, sum_by-take-drop (λ x. x) s kids, min-le_left (sum (take kids s)) limit, sum_by-cons (λ x. x) (min (sum (take kids s)) limit) (drop kids s))

pub stack-wants : (level : ℕ) (ps : List Place) → sum (absorb_stack level ps) ≤ sum (wants_in ps)
stack-wants level [] = omega arith
stack-wants level (x ∷ ps) = step-wants level x.kids x.kind (absorb_stack level ps) (wants_in ps) (stack-wants level ps)

pub sum_wants-drop : (m : ℕ) (ps : List Place) → sum (wants_in (drop m ps)) ≤ sum (wants_in ps)
sum_wants-drop zero ps = omega arith
sum_wants-drop (suc m) [] = omega arith
sum_wants-drop (suc m) (x ∷ ps) = omega (arith, sum_wants-drop m ps, sum_wants-cons x ps)
