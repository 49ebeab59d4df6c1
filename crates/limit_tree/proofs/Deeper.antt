-- Of two nodes with a common leaf the later stands deeper.
use Rattle.std.proofs.Common.{◌≡◌, ℕ, zero, suc, ◌+◌, ◌-◌, ◌<◌, ◌≤◌, List, [], ◌∷◌, ◌++◌, map, length, refl, sym, subst, arith, ◌⊎◌, inl, inr, Some}
use Rattle.std.specs.Prelude.{slice_get}
use Rattle.limit_tree.specs.Depths.{LaterIsDeeper}
use Rattle.limit_tree.specs.Outline.{leaf_count, deeper, behind, places, layer_kids, leaf_alone, branch_over}
use Rattle.limit_tree.specs.declared.place.Place.{Place}
use Rattle.limit_tree.specs.declared.node.Node.{Node}
use Rattle.limit_tree.specs.declared.node.Node.TheOpen.{Node-F}
use Rattle.limit_tree.specs.declared.node.Node.TheOpen.Node-F.{Branch as BranchOf, Leaf as LeafOf}
use Rattle.limit_tree.specs.declared.node.Node.TheViews.{roll-Node}
use Rattle.limit_tree.specs.declared.node.Node.TheFolds.{ind-Node, map-Node}
use Rattle.limit_tree.proofs.Places.{places_of_all, layer_root, places_roll}
use Rattle.limit_tree.proofs.Nested.{IsOrdered, InSecond, in_map, split_at, in_range, ordered-tree}

abbrev Has : Place → ℕ → Type 0
Has p i = (p.first ≤ i) × (i < p.first + p.leaves)

abbrev IsDeeper : List Place → Type 0
IsDeeper ps = (j k i : ℕ) (a b : Place) → slice_get ps j ≡ Some a → slice_get ps k ≡ Some b → j < k → Has a i → Has b i → a.depth < b.depth

deeper-pair : (p q : List Place) → IsOrdered p (leaf_count p) → IsDeeper p → IsDeeper q → IsDeeper (p ++ map (behind (leaf_count p)) q)
deeper-pair p q ordered in_p in_q j k i a b ga gb less ha hb = go (split_at (behind (leaf_count p)) p q j a ga) (split_at (behind (leaf_count p)) p q k b gb)
  where
    go : ((j < length p) × (slice_get p j ≡ Some a)) ⊎ InSecond (behind (leaf_count p)) p q j a → ((k < length p) × (slice_get p k ≡ Some b)) ⊎ InSecond (behind (leaf_count p)) p q k b → a.depth < b.depth
    go (inl l) (inl r) = in_p j k i a b l.1 r.1 less ha hb
    go (inl l) (inr r) =
        let most : a.first + a.leaves ≤ leaf_count p = ordered.bounded j a l.1 in
        let low : leaf_count p ≤ b.first = subst (λ (x : Place). leaf_count p ≤ x.first) (sym r.image) (omega arith) in
        let high : i < a.first + a.leaves = ha.1 in
        let from : b.first ≤ i = hb.0 in
        absurd (omega arith)
    go (inr l) (inl r) = let n : j ≡ length p + l.at = l.number in let m : k < length p = r.0 in absurd (omega arith)
    go (inr l) (inr r) =
        let n : j ≡ length p + l.at = l.number in
        let m : k ≡ length p + r.at = r.number in
        let at_l : Has (behind (leaf_count p) l.node) i = subst (λ (x : Place). Has x i) l.image ha in
        let at_r : Has (behind (leaf_count p) r.node) i = subst (λ (x : Place). Has x i) r.image hb in
        let low_l : leaf_count p + l.node.first ≤ i = at_l.0 in
        let high_l : i < leaf_count p + l.node.first + l.node.leaves = at_l.1 in
        let low_r : leaf_count p + r.node.first ≤ i = at_r.0 in
        let high_r : i < leaf_count p + r.node.first + r.node.leaves = at_r.1 in
        let inner : l.node.depth < r.node.depth = in_q l.at r.at (i - leaf_count p) l.node r.node l.got r.got (omega arith) (omega arith, omega arith) (omega arith, omega arith) in
        subst (λ (x : Place). x.depth < b.depth) (sym l.image) (subst (λ (y : Place). l.node.depth < y.depth) (sym r.image) inner)

-- under a root
deeper-root : (root : Place) (q : List Place) → root.depth ≡ 0 → IsDeeper q → IsDeeper (root ∷ map deeper q)
deeper-root root q top in_q zero zero i a b ga gb less ha hb = absurd (omega arith)
deeper-root root q top in_q (suc j) zero i a b ga gb less ha hb = absurd (omega arith)
deeper-root root q top in_q zero (suc k) i a b ga gb less ha hb =
    let m : (y : Place) × (slice_get q k ≡ Some y) × (b ≡ deeper y) = in_map deeper q k b gb in
    let is_root : root ≡ a = cc in
    subst (λ (x : Place). x.depth < b.depth) is_root (subst (λ (y : Place). root.depth < y.depth) (sym m.2) (omega (arith, top)))
deeper-root root q top in_q (suc j) (suc k) i a b ga gb less ha hb =
    let l : (y : Place) × (slice_get q j ≡ Some y) × (a ≡ deeper y) = in_map deeper q j a ga in
    let r : (y : Place) × (slice_get q k ≡ Some y) × (b ≡ deeper y) = in_map deeper q k b gb in
    let inner : l.0.depth < r.0.depth = in_q j k i l.0 r.0 l.1 r.1 (omega arith) (subst (λ (x : Place). Has x i) l.2 ha) (subst (λ (x : Place). Has x i) r.2 hb) in
    subst (λ (x : Place). x.depth < b.depth) (sym l.2) (subst (λ (y : Place). l.0.depth + 1 < y.depth) (sym r.2) (omega arith))

abbrev IsDeeperTree : {A : Type 0} → Node A → Type 0
IsDeeperTree n = IsDeeper (places n)

deeper-nothing : IsDeeper []
deeper-nothing j k i a b ga gb less ha hb = absurd (cc)

deeper-all : {A : Type 0} (kids : List ((n : Node A) × IsDeeperTree n)) → IsDeeper (places_of_all (map (λ e. e.0) kids))
deeper-all [] = deeper-nothing
deeper-all (kid ∷ kids) = deeper-pair (places kid.0) (places_of_all (map (λ e. e.0) kids)) (ordered-tree kid.0) kid.1 (deeper-all kids)

abbrev KidsDeeper : {A : Type 0} → Node-F A (Node A) → Type 0
KidsDeeper x = IsDeeper (places_of_all (layer_kids x))

deeper-layer : {A : Type 0} (x : Node-F A (Node A)) → KidsDeeper x → IsDeeper (layer_root x ∷ map deeper (places_of_all (layer_kids x)))
deeper-layer (LeafOf want floor) kids = deeper-root (leaf_alone want floor) [] refl deeper-nothing
deeper-layer (BranchOf limit kids) inner = deeper-root (branch_over limit (length kids.items) (places_of_all kids.items)) (places_of_all kids.items) refl inner

deeper-roll : {A : Type 0} (x : Node-F A (Node A)) → KidsDeeper x → IsDeeperTree (roll-Node A x)
deeper-roll x kids = subst (λ (ps : List Place). IsDeeper ps) (sym (places_roll x)) (deeper-layer x kids)

deeper-tree : {A : Type 0} (n : Node A) → IsDeeperTree n
deeper-tree {A} = ind-Node A IsDeeperTree (λ x y is. deeper-roll x (subst KidsDeeper is (elim y as (λ z. KidsDeeper (map-Node A ((n : Node A) × IsDeeperTree n) (Node A) (λ e. e.0) z)) [ LeafOf want floor ↦ deeper-nothing | BranchOf limit kids ↦ deeper-all kids.items ])))

pub later_is_deeper : {A : Type 0} (n : Node A) → LaterIsDeeper (places n)
later_is_deeper n j k i p q gp gq less hp hq = deeper-tree n j k i p q gp gq less (in_range p.first p.leaves i hp) (in_range q.first q.leaves i hq)
