-- The branches above a node of a tree: one at each lesser depth, over all of its leaves.
use Rattle.std.proofs.Common.{◌≡◌, ℕ, zero, suc, ◌+◌, ◌<◌, ◌≤◌, List, [], ◌∷◌, ◌++◌, map, length, refl, sym, ap, ◌∙◌, subst, arith, ◌⊎◌, inl, inr, Option, Some}
use Rattle.std.specs.Prelude.{slice_get}
use Rattle.std.proofs.lemmas.Bool.{cases_eq, cases_lt}
use Rattle.limit_tree.specs.Outline.{leaf_count, deeper, behind, places, layer_kids, leaf_alone, branch_over}
use Rattle.limit_tree.specs.declared.place.NodeKind.TheVariants.{Branch}
use Rattle.limit_tree.specs.declared.place.Place.{Place}
use Rattle.limit_tree.specs.declared.node.Node.{Node}
use Rattle.limit_tree.specs.declared.node.Node.TheOpen.{Node-F}
use Rattle.limit_tree.specs.declared.node.Node.TheOpen.Node-F.{Branch as BranchOf, Leaf as LeafOf}
use Rattle.limit_tree.specs.declared.node.Node.TheViews.{roll-Node}
use Rattle.limit_tree.specs.declared.node.Node.TheFolds.{ind-Node, map-Node}
use Rattle.limit_tree.proofs.Places.{places_of_all, layer_root, places_roll, leaf_count-cons, leaf_count-deeper}
use Rattle.limit_tree.proofs.Nested.{IsOrdered, InSecond, in_map, split_at, ordered-tree}
use Rattle.limit_tree.proofs.Shapes.{slice_get-front}

-- a branch over all leaves of b
pub record IsOver (ps : List Place) (j : ℕ) (b : Place) (depth : ℕ) : Type 0 where
  pub place : Place
  pub there : slice_get ps j ≡ Some place
  pub at : place.depth ≡ depth
  pub low : place.first ≤ b.first
  pub high : b.first + b.leaves ≤ place.first + place.leaves
  pub limit : Option ℕ
  pub kind : place.kind ≡ Branch limit

-- each node that is not at the top has a branch over it at the depth before
abbrev HaveParents : List Place → Type 0
HaveParents ps = (k n : ℕ) (b : Place) → slice_get ps k ≡ Some b → b.depth ≡ suc n → (j : ℕ) × IsOver ps j b n

mapped_at : (f : Place → Place) (q : List Place) (k : ℕ) (x : Place) → slice_get q k ≡ Some x → slice_get (map f q) k ≡ Some (f x)
mapped_at f [] k x e = absurd (cc)
mapped_at f (y ∷ q) zero x e = let same : y ≡ x = cc in ap (λ (z : Place). Some (f z)) same
mapped_at f (y ∷ q) (suc k) x e = mapped_at f q k x e

second_at : (f : Place → Place) (p q : List Place) (k : ℕ) (x : Place) → slice_get q k ≡ Some x → slice_get (p ++ map f q) (length p + k) ≡ Some (f x)
second_at f [] q k x e = let at : 0 + k ≡ k = omega arith in ap (slice_get (map f q)) at ∙ mapped_at f q k x e
second_at f (y ∷ p) q k x e = let at : length (y ∷ p) + k ≡ suc (length p + k) = omega arith in ap (slice_get (y ∷ p ++ map f q)) at ∙ second_at f p q k x e

parents-pair : (c : ℕ) (p q : List Place) → HaveParents p → HaveParents q → HaveParents (p ++ map (behind c) q)
parents-pair c p q in_p in_q k n b got depth = go (split_at (behind c) p q k b got)
  where
    go : ((k < length p) × (slice_get p k ≡ Some b)) ⊎ InSecond (behind c) p q k b → (j : ℕ) × IsOver (p ++ map (behind c) q) j b n
    go (inl l) =
        let above = in_p k n b l.1 depth in
        let over = above.1 in
        (above.0, record { place = over.place; there = slice_get-front p (map (behind c) q) above.0 over.place over.there; at = over.at; low = over.low; high = over.high; limit = over.limit; kind = over.kind })
    go (inr r) =
        let down : r.node.depth ≡ suc n = ap (λ (x : Place). x.depth) (sym r.image) ∙ depth in
        let above = in_q r.at n r.node r.got down in
        let over = above.1 in
        let low : over.place.first ≤ r.node.first = over.low in
        let high : r.node.first + r.node.leaves ≤ over.place.first + over.place.leaves = over.high in (
          length p + above.0,
          subst (λ (x : Place). IsOver (p ++ map (behind c) q) (length p + above.0) x n) (sym r.image) (record {
            place = behind c over.place;
            there = second_at (behind c) p q above.0 over.place over.there;
            at = over.at;
            low = omega arith;
            high = omega arith;
            limit = over.limit;
            kind = over.kind;
          }),
        )

parents-root : (root : Place) (q : List Place) (limit : Option ℕ) → root.kind ≡ Branch limit → root.depth ≡ 0 → root.first ≡ 0 → ((k : ℕ) (x : Place) → slice_get q k ≡ Some x → x.first + x.leaves ≤ root.leaves) → HaveParents q → HaveParents (root ∷ map deeper q)
parents-root root q limit kind top first bound in_q zero n b got depth = absurd (omega (arith, top, ap (λ (x : Place). x.depth) (is_root got), depth))
  where
    is_root : slice_get (root ∷ map deeper q) 0 ≡ Some b → root ≡ b
    is_root got = cc
parents-root root q limit kind top first bound in_q (suc k) zero b got depth =
    let m : (y : Place) × (slice_get q k ≡ Some y) × (b ≡ deeper y) = in_map deeper q k b got in
    let most : m.0.first + m.0.leaves ≤ root.leaves = bound k m.0 m.1 in
    (0, subst (λ (x : Place). IsOver (root ∷ map deeper q) 0 x 0) (sym m.2) (record { place = root; there = refl; at = top; low = omega (arith, first); high = omega (arith, first); limit = limit; kind = kind }))
parents-root root q limit kind top first bound in_q (suc k) (suc n) b got depth =
    let m : (y : Place) × (slice_get q k ≡ Some y) × (b ≡ deeper y) = in_map deeper q k b got in
    let deep : m.0.depth + 1 ≡ suc (suc n) = ap (λ (x : Place). x.depth) (sym m.2) ∙ depth in
    let above = in_q k n m.0 m.1 (omega arith) in
    let over = above.1 in
    let at : over.place.depth ≡ n = over.at in (
      suc above.0,
      subst (λ (x : Place). IsOver (root ∷ map deeper q) (suc above.0) x (suc n)) (sym m.2) (record {
        place = deeper over.place;
        there = mapped_at deeper q above.0 over.place over.there;
        at = omega arith;
        low = over.low;
        high = over.high;
        limit = over.limit;
        kind = over.kind;
      }),
    )

abbrev HasParents : {A : Type 0} → Node A → Type 0
HasParents n = HaveParents (places n)

parents-nothing : HaveParents []
parents-nothing k n b got depth = absurd (cc)

parents-all : {A : Type 0} (kids : List ((n : Node A) × HasParents n)) → HaveParents (places_of_all (map (λ e. e.0) kids))
parents-all [] = parents-nothing
parents-all (kid ∷ kids) = parents-pair (leaf_count (places kid.0)) (places kid.0) (places_of_all (map (λ e. e.0) kids)) kid.1 (parents-all kids)

abbrev KidsHave : {A : Type 0} → Node-F A (Node A) → Type 0
KidsHave x = HaveParents (places_of_all (layer_kids x))

parents-leaf : (want floor : ℕ) → HaveParents (leaf_alone want floor ∷ [])
parents-leaf want floor zero n b got depth = absurd (omega (arith, ap (λ (y : Place). y.depth) (is_leaf got), depth))
  where
    is_leaf : slice_get (leaf_alone want floor ∷ []) 0 ≡ Some b → leaf_alone want floor ≡ b
    is_leaf got = cc
parents-leaf want floor (suc k) n b got depth = absurd (cc)

parents-layer : {A : Type 0} (x : Node-F A (Node A)) → KidsHave x → IsOrdered (layer_root x ∷ map deeper (places_of_all (layer_kids x))) (leaf_count (layer_root x ∷ map deeper (places_of_all (layer_kids x)))) → HaveParents (layer_root x ∷ map deeper (places_of_all (layer_kids x)))
parents-layer (LeafOf want floor) kids ordered = parents-leaf want floor
parents-layer (BranchOf limit kids) inner ordered =
    let below = places_of_all kids.items in
    let root = branch_over limit (length kids.items) below in
    let all : leaf_count (root ∷ map deeper below) ≡ leaf_count below = omega (arith, leaf_count-deeper below, leaf_count-cons root (map deeper below)) in
    parents-root root below limit refl refl refl (λ k x got. bound below root all ordered k x got) inner
  where
    bound : (below : List Place) (root : Place) → leaf_count (root ∷ map deeper below) ≡ leaf_count below → IsOrdered (root ∷ map deeper below) (leaf_count (root ∷ map deeper below)) → (k : ℕ) (x : Place) → slice_get below k ≡ Some x → x.first + x.leaves ≤ leaf_count below
    bound below root all ordered k x got =
        let most : x.first + x.leaves ≤ leaf_count (root ∷ map deeper below) = ordered.bounded (suc k) (deeper x) (mapped_at deeper below k x got) in
        omega arith

parents-roll : {A : Type 0} (x : Node-F A (Node A)) → KidsHave x → HasParents (roll-Node A x)
parents-roll {A} x kids =
    subst (λ (ps : List Place). HaveParents ps) (sym (places_roll x))
    (parents-layer x kids (subst (λ (ps : List Place). IsOrdered ps (leaf_count ps)) (places_roll x) (ordered-tree (roll-Node A x))))

parents-tree : {A : Type 0} (n : Node A) → HasParents n
parents-tree {A} = ind-Node A HasParents (λ x y is. parents-roll x (subst KidsHave is (elim y as (λ z. KidsHave (map-Node A ((n : Node A) × HasParents n) (Node A) (λ e. e.0) z)) [ LeafOf want floor ↦ parents-nothing | BranchOf limit kids ↦ parents-all kids.items ])))

over_more : (ps : List Place) (j : ℕ) (a b : Place) (depth : ℕ) → a.first ≤ b.first → b.first + b.leaves ≤ a.first + a.leaves → IsOver ps j a depth → IsOver ps j b depth
over_more ps j a b depth low high over =
    let low_a : over.place.first ≤ a.first = over.low in
    let high_a : a.first + a.leaves ≤ over.place.first + over.place.leaves = over.high in
    record { place = over.place; there = over.there; at = over.at; low = omega arith; high = omega arith; limit = over.limit; kind = over.kind }

all_above : (ps : List Place) → HaveParents ps → (d k : ℕ) (b : Place) → slice_get ps k ≡ Some b → b.depth ≡ d → (e : ℕ) → e < d → (j : ℕ) × IsOver ps j b e
all_above ps parents zero k b got depth e less = absurd (omega arith)
all_above ps parents (suc d) k b got depth e less =
    let next = parents k d b got depth in
    elim (cases_eq d e) [
      | inl is ↦ (next.0, subst (IsOver ps next.0 b) is next.1)
      | inr not ↦
          let above = all_above ps parents d next.0 next.1.place next.1.there next.1.at e (before d e less not) in
          (above.0, over_more ps above.0 next.1.place b e next.1.low next.1.high above.1)
    ]
  where
    before : (d e : ℕ) → e < suc d → (d ≡ e → ⊥) → e < d
    before d e less not = elim (cases_lt e d) [ inl l ↦ l | inr h ↦ absurd (not (omega arith)) ]

-- a branch over a node at each depth before that of the node
pub above : {A : Type 0} (n : Node A) (k : ℕ) (b : Place) → slice_get (places n) k ≡ Some b → (e : ℕ) → e < b.depth → (j : ℕ) × IsOver (places n) j b e
above n k b got e less = all_above (places n) (parents-tree n) b.depth k b got refl e less
