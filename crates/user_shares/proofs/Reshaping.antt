-- Trees of other kinds of nodes, tree by tree.
use Rattle.std.proofs.Common.{◌≡◌, ℕ, zero, suc, ◌+◌, ◌<◌, ◌≤◌, Bool, true, false, cond, List, [], ◌∷◌, ◌++◌, map, length, length-append, take, refl, sym, ap, ◌∙◌, subst, append_assoc, append-nil, arith, Option, Some, None}
use Rattle.std.specs.Prelude.{slice_get, count_by}
use Rattle.std.proofs.lemmas.List.{map-append}
use Rattle.std.proofs.lemmas.List.Sums.{sum_by-append, sum_by-cons}
use Rattle.limit_tree.specs.declared.place.NodeKind.{NodeKind}
use Rattle.limit_tree.specs.declared.place.NodeKind.TheVariants.{Branch, Leaf}
use Rattle.limit_tree.specs.declared.place.Place.{Place}
use Rattle.limit_tree.specs.declared.node.Node.{Node}
use Rattle.limit_tree.specs.Sharing.{sum_over}
use Rattle.limit_tree.specs.Depths.{depths_by, HaveDepths}
use Rattle.limit_tree.specs.Outline.{is_leaf_kind, behind, branch_over, deeper, leaf_alone, leaf_count, leaf_range, limits, places}
use Rattle.limit_tree.specs.Flat.{IsRow, IsShaped, IsTreeAt}
use Rattle.limit_tree.proofs.DepthsByKids.{have-depths}
use Rattle.limit_tree.proofs.Leaves.{floors_in, length-floors_in}
use Rattle.limit_tree.proofs.Nested.{ordered-tree, summed-tree}
use Rattle.limit_tree.proofs.Shapes.{shaped-tree}
use Rattle.limit_tree.proofs.Sound.{sum_over-range}
use Rattle.limit_tree.proofs.Places.{own_leaves, leaf_count-append, leaf_count-cons}
use Rattle.limit_tree.proofs.Hops.{row-last}
use Rattle.std.proofs.lemmas.List.{take-map, length-map}
use Rattle.std.proofs.Math.Seq.{take-length}
use Rattle.limit_tree.specs.Flat.{HasRow, IsFlat}
use Rattle.user_shares.specs.Rebuilt.{HasKinds, IsReshaped, Shape, shape_of, shapes, reshaped, nodes_of, node_places}

-- one element more
pub take-next : {X : Type 0} (xs : List X) (k : ℕ) (x : X) → slice_get xs k ≡ Some x → take (k + 1) xs ≡ take k xs ++ x ∷ []
take-next [] k x e = absurd (cc)
take-next (y ∷ xs) zero x e = let same : y ≡ x = cc in ap (λ z. z ∷ []) same
take-next (y ∷ xs) (suc k) x e =
    let next : suc k + 1 ≡ suc (k + 1) = omega arith in
    ap (λ n. take n (y ∷ xs)) next ∙ ap (λ zs. y ∷ zs) (take-next xs k x e)

shapes-behind : (n : ℕ) (ps : List Place) → shapes (map (behind n) ps) ≡ shapes ps
shapes-behind n [] = refl
shapes-behind n (p ∷ ps) = ap (λ s. shape_of p ∷ s) (shapes-behind n ps)

shapes-deeper : (ps : List Place) → shapes (map deeper ps) ≡ shapes ps
shapes-deeper [] = refl
shapes-deeper (p ∷ ps) = ap (λ s. shape_of p ∷ s) (shapes-deeper ps)

shapes-pair : (p q : List Place) (c : ℕ) → shapes (p ++ map (behind c) q) ≡ shapes p ++ shapes q
shapes-pair p q c = map-append shape_of p (map (behind c) q) ∙ ap (λ s. shapes p ++ s) (shapes-behind c q)

-- one tree more
pub shapes-more : {A : Type 0} (trees : List (Node A)) (tree : Node A) → shapes (nodes_of (trees ++ tree ∷ [])) ≡ shapes (nodes_of trees) ++ shapes (places tree)
shapes-more [] tree = ap shapes (append-nil (places tree))
shapes-more (first ∷ trees) tree =
    let c = leaf_count (places first) in
    shapes-pair (places first) (nodes_of (trees ++ tree ∷ [])) c ∙
    (ap (λ s. shapes (places first) ++ s) (shapes-more trees tree) ∙
    (sym (append_assoc (shapes (places first)) (shapes (nodes_of trees)) (shapes (places tree))) ∙
    ap (λ s. s ++ shapes (places tree)) (sym (shapes-pair (places first) (nodes_of trees) c))))

pub reshaped-at : (ps : List Place) (kinds : List NodeKind) (k : ℕ) (p : Place) (kind : NodeKind) → slice_get ps k ≡ Some p → slice_get kinds k ≡ Some kind → slice_get (reshaped ps kinds) k ≡ Some (record { kind = kind; leaves = p.leaves; kids = p.kids })
reshaped-at [] kinds k p kind got is = absurd (cc)
reshaped-at (x ∷ ps) [] k p kind got is = absurd (cc)
reshaped-at (x ∷ ps) (y ∷ kinds) zero p kind got is =
    let same_p : x ≡ p = cc in
    let same_k : y ≡ kind = cc in
    let first : Some (record { kind = y; leaves = x.leaves; kids = x.kids }) ≡ Some (record { kind = kind; leaves = x.leaves; kids = x.kids }) = ap (λ (z : NodeKind). Some (record { kind = z; leaves = x.leaves; kids = x.kids })) same_k in
    first ∙ ap (λ (z : Place). Some (record { kind = kind; leaves = z.leaves; kids = z.kids })) same_p
reshaped-at (x ∷ ps) (y ∷ kinds) (suc k) p kind got is = reshaped-at ps kinds k p kind got is

-- number of leaves among shapes
abbrev counted : List Shape → ℕ
counted ss = count_by (λ s. is_leaf_kind s.kind) ss

counted-cons : (x : Shape) (ss : List Shape) → counted (x ∷ ss) ≡ own_leaves x.kind + counted ss
counted-cons x ss = sum_by-cons (λ (s : Shape). own_leaves s.kind) x ss

counted-append : (ss ts : List Shape) → counted (ss ++ ts) ≡ counted ss + counted ts
counted-append ss ts = sum_by-append (λ (s : Shape). own_leaves s.kind) ss ts

counted-shapes : (ps : List Place) → counted (shapes ps) ≡ leaf_count ps
counted-shapes [] = refl
counted-shapes (p ∷ ps) = omega (arith, counted-cons (shape_of p) (shapes ps), leaf_count-cons p ps, counted-shapes ps)

has-tail : (p : Place) (ps : List Place) (kind : NodeKind) (kinds : List NodeKind) → HasKinds (p ∷ ps) (kind ∷ kinds) → HasKinds ps kinds
has-tail p ps kind kinds has = record { nodes = omega (arith, has.nodes); alike = λ k q other got is. has.alike (suc k) q other got is }

counted-reshaped : (ps : List Place) (kinds : List NodeKind) (k : ℕ) → HasKinds ps kinds → counted (take k (reshaped ps kinds)) ≡ leaf_count (take k ps)
counted-reshaped [] kinds zero has = refl
counted-reshaped [] kinds (suc k) has = refl
counted-reshaped (p ∷ ps) [] k has = absurd (omega (arith, has.nodes))
counted-reshaped (p ∷ ps) (kind ∷ kinds) zero has = refl
counted-reshaped (p ∷ ps) (kind ∷ kinds) (suc k) has =
    let own : own_leaves kind ≡ own_leaves p.kind = ap (λ (b : Bool). cond b 1 0) (has.alike 0 p kind refl refl) in
    let rest = counted-reshaped ps kinds k (has-tail p ps kind kinds has) in
    omega (arith, own, rest, counted-cons (record { kind = kind; leaves = p.leaves; kids = p.kids }) (take k (reshaped ps kinds)), leaf_count-cons p (take k ps))

-- the leaves of a tree end where its nodes do
abbrev EndsRight : List Place → ℕ → Type 0
EndsRight ps fuel = (k : ℕ) (p : Place) → slice_get ps k ≡ Some p → p.nodes ≤ fuel → p.first + p.leaves ≡ leaf_count (take (k + p.nodes) ps)

row-ends : (ps : List Place) (fuel : ℕ) → EndsRight ps fuel → (n at first last past : ℕ) → IsRow ps at first n last past → last ≤ at + fuel → first ≡ leaf_count (take at ps) → past ≡ leaf_count (take last ps)
row-ends ps fuel ends zero at first last past row fits from = sym row.1 ∙ (from ∙ ap (λ k. leaf_count (take k ps)) row.0)
row-ends ps fuel ends (suc n) at first last past row fits from =
    let p = row.0 in
    let next = row-last ps (at + p.nodes) (first + p.leaves) n last past row.3 in
    let one = ends at p row.1 (omega (arith, next)) in
    let begins : first + p.leaves ≡ leaf_count (take (at + p.nodes) ps) = omega (arith, one, row.2) in
    row-ends ps fuel ends n (at + p.nodes) (first + p.leaves) last past row.3 (omega arith) begins

kind-ends : (ps : List Place) (fuel : ℕ) → EndsRight ps fuel → (k : ℕ) (p : Place) → slice_get ps k ≡ Some p → p.nodes ≤ suc fuel → IsTreeAt ps k p → (kind : NodeKind) → p.kind ≡ kind → p.first + p.leaves ≡ leaf_count (take (k + p.nodes) ps)
kind-ends ps fuel ends k p got fits tree (Leaf want floor) is =
    let one = tree.leaf want floor is in
    let next : k + p.nodes ≡ k + 1 = omega (arith, one.0) in
    let own : own_leaves p.kind ≡ 1 = ap own_leaves is in
    omega (arith, one.1, tree.first, own, ap (λ n. leaf_count (take n ps)) next, ap leaf_count (take-next ps k p got), leaf_count-append (take k ps) (p ∷ []), leaf_count-cons p [])
kind-ends ps fuel ends k p got fits tree (Branch limit) is =
    let own : own_leaves p.kind ≡ 0 = ap own_leaves is in
    let from : p.first ≡ leaf_count (take (k + 1) ps) = omega (arith, tree.first, own, ap leaf_count (take-next ps k p got), leaf_count-append (take k ps) (p ∷ []), leaf_count-cons p []) in
    row-ends ps fuel ends p.kids (k + 1) p.first (k + p.nodes) (p.first + p.leaves) (tree.branch limit is) (omega arith) from

ends-right : (ps : List Place) (fuel : ℕ) → IsShaped ps → EndsRight ps fuel
ends-right ps zero shaped = λ k p got fits. absurd (omega (arith, (shaped k p got).some))
ends-right ps (suc fuel) shaped = λ k p got fits. kind-ends ps fuel (ends-right ps fuel shaped) k p got fits (shaped k p got) p.kind refl

pub leaf-kind : (kind : NodeKind) → is_leaf_kind kind ≡ true → (want : ℕ) × (floor : ℕ) × (kind ≡ Leaf want floor)
leaf-kind (Branch limit) is = absurd (cc)
leaf-kind (Leaf want floor) is = (want, floor, refl)

pub branch-kind : (kind : NodeKind) → is_leaf_kind kind ≡ false → (limit : Option ℕ) × (kind ≡ Branch limit)
branch-kind (Branch limit) is = (limit, refl)
branch-kind (Leaf want floor) is = absurd (cc)

-- a leaf of the shape of a leaf
pub reshaped-leaf : (ps : List Place) (kinds : List NodeKind) (at : ℕ) (p : Place) (want floor : ℕ) → IsShaped ps → HasKinds ps kinds → slice_get ps at ≡ Some p → slice_get kinds at ≡ Some (Leaf want floor) → take at (reshaped ps kinds) ++ shapes (leaf_alone want floor ∷ []) ≡ take (at + p.nodes) (reshaped ps kinds)
reshaped-leaf ps kinds at p want floor shaped has got is =
    let old = leaf-kind p.kind (sym (has.alike at p (Leaf want floor) got is)) in
    let one = (shaped at p got).leaf old.0 old.1 old.2 in
    let here : slice_get (reshaped ps kinds) at ≡ Some (record { kind = Leaf want floor; leaves = 1; kids = 0 }) =
    reshaped-at ps kinds at p (Leaf want floor) got is ∙
    (ap (λ (n : ℕ). Some (record { kind = Leaf want floor; leaves = n; kids = p.kids })) one.1 ∙
    ap (λ (n : ℕ). Some (record { kind = Leaf want floor; leaves = 1; kids = n })) one.2) in
    sym (take-next (reshaped ps kinds) at (record { kind = Leaf want floor; leaves = 1; kids = 0 }) here) ∙ ap (λ n. take (at + n) (reshaped ps kinds)) (sym one.0)

-- a branch over trees of the shapes of those below a branch
pub reshaped-branch : (ps : List Place) (kinds : List NodeKind) (at : ℕ) (p : Place) (limit : Option ℕ) (count : ℕ) (below : List Place) → IsShaped ps → HasKinds ps kinds → slice_get ps at ≡ Some p → slice_get kinds at ≡ Some (Branch limit) → count ≡ p.kids → take (at + 1) (reshaped ps kinds) ++ shapes below ≡ take (at + p.nodes) (reshaped ps kinds) → take at (reshaped ps kinds) ++ shapes (branch_over limit count below ∷ map deeper below) ≡ take (at + p.nodes) (reshaped ps kinds)
reshaped-branch ps kinds at p limit count below shaped has got is kids all =
    let t = reshaped ps kinds in
    let tree = shaped at p got in
    let old = branch-kind p.kind (sym (has.alike at p (Branch limit) got is)) in
    let own : own_leaves p.kind ≡ 0 = ap own_leaves old.1 in
    let x : Shape = record { kind = Branch limit; leaves = leaf_count below; kids = count } in
    let counts : counted (take (at + 1) t) + counted (shapes below) ≡ counted (take (at + p.nodes) t) = sym (counted-append (take (at + 1) t) (shapes below)) ∙ ap counted all in
    let leaves : leaf_count below ≡ p.leaves = omega (
      arith,
      counts,
      counted-shapes below,
      counted-reshaped ps kinds (at + 1) has,
      counted-reshaped ps kinds (at + p.nodes) has,
      ends-right ps p.nodes shaped at p got (omega arith),
      tree.first,
      own,
      ap leaf_count (take-next ps at p got),
      leaf_count-append (take at ps) (p ∷ []),
      leaf_count-cons p [],
    ) in
    let here : slice_get t at ≡ Some x =
    reshaped-at ps kinds at p (Branch limit) got is ∙
    (ap (λ (n : ℕ). Some (record { kind = Branch limit; leaves = n; kids = p.kids })) (sym leaves) ∙
    ap (λ (n : ℕ). Some (record { kind = Branch limit; leaves = leaf_count below; kids = n })) (sym kids)) in
    ap (λ s. take at t ++ x ∷ s) (shapes-deeper below) ∙
    (sym (append_assoc (take at t) (x ∷ []) (shapes below)) ∙
    (ap (λ s. s ++ shapes below) (sym (take-next t at x here)) ∙ all))

-- one tree more, of the shape of one
pub reshaped-more : {A : Type 0} (ps : List Place) (kinds : List NodeKind) (first at last : ℕ) (trees new : List (Node A)) (tree : Node A) → take first (reshaped ps kinds) ++ shapes (nodes_of trees) ≡ take at (reshaped ps kinds) → take at (reshaped ps kinds) ++ shapes (places tree) ≡ take last (reshaped ps kinds) → new ≡ trees ++ tree ∷ [] → take first (reshaped ps kinds) ++ shapes (nodes_of new) ≡ take last (reshaped ps kinds)
reshaped-more ps kinds first at last trees new tree before here is =
    let t = reshaped ps kinds in
    ap (λ ns. take first t ++ shapes (nodes_of ns)) is ∙
    (ap (λ s. take first t ++ s) (shapes-more trees tree) ∙
    (sym (append_assoc (take first t) (shapes (nodes_of trees)) (shapes (places tree))) ∙
    (ap (λ s. s ++ shapes (places tree)) before ∙ here)))

-- one tree more, from those of its kids
pub reshaped-node : {A : Type 0} (ps : List Place) (kinds : List NodeKind) (at : ℕ) (p : Place) (kind : NodeKind) (kids : List (Node A)) (node : Node A) → IsShaped ps → HasKinds ps kinds → slice_get ps at ≡ Some p → slice_get kinds at ≡ Some kind → length kids ≡ p.kids → ((begin last past : ℕ) → IsRow ps (at + 1) begin p.kids last past → take (at + 1) (reshaped ps kinds) ++ shapes (nodes_of kids) ≡ take last (reshaped ps kinds)) → places node ≡ node_places kind kids → take at (reshaped ps kinds) ++ shapes (places node) ≡ take (at + p.nodes) (reshaped ps kinds)
reshaped-node ps kinds at p (Leaf want floor) kids node shaped has got is count below made =
    ap (λ (qs : List Place). take at (reshaped ps kinds) ++ shapes qs) made ∙ reshaped-leaf ps kinds at p want floor shaped has got is
reshaped-node ps kinds at p (Branch limit) kids node shaped has got is count below made =
    let old = branch-kind p.kind (sym (has.alike at p (Branch limit) got is)) in
    let row = (shaped at p got).branch old.0 old.1 in
    ap (λ (qs : List Place). take at (reshaped ps kinds) ++ shapes qs) made ∙
    reshaped-branch ps kinds at p limit (length kids) (nodes_of kids) shaped has got is count (below p.first (at + p.nodes) (p.first + p.leaves) row)

-- the kids of a node are a row
pub kids-row : (ps : List Place) (at : ℕ) (p : Place) → IsShaped ps → slice_get ps at ≡ Some p → HasRow ps (at + 1) p.kids
kids-row ps at p shaped got = go p.kind refl
  where
    go : (kind : NodeKind) → p.kind ≡ kind → HasRow ps (at + 1) p.kids
    go (Leaf want floor) is = subst (λ (n : ℕ). HasRow ps (at + 1) n) (sym ((shaped at p got).leaf want floor is).2) (0, at + 1, 0, (refl, refl))
    go (Branch limit) is = (p.first, at + p.nodes, p.first + p.leaves, (shaped at p got).branch limit is)

-- a row of no tree ends where it begins
pub row-done : (ps : List Place) (at first n last past : ℕ) → IsRow ps at first n last past → n ≡ 0 → at ≡ last
row-done ps at first n last past row none = (subst (λ (m : ℕ). IsRow ps at first m last past) none row).0

length-reshaped : (ps : List Place) (kinds : List NodeKind) → length kinds ≡ length ps → length (reshaped ps kinds) ≡ length ps
length-reshaped [] kinds same = refl
length-reshaped (p ∷ ps) [] same = absurd (omega (arith, same))
length-reshaped (p ∷ ps) (kind ∷ kinds) same = ap suc (length-reshaped ps kinds (omega (arith, same)))

pub some-at : {X : Type 0} (xs : List X) (k : ℕ) → k < length xs → (x : X) × (slice_get xs k ≡ Some x)
some-at [] k less = absurd (omega arith)
some-at (x ∷ xs) zero less = (x, refl)
some-at (x ∷ xs) (suc k) less = some-at xs k (omega arith)

pub within-at : {X : Type 0} (xs : List X) (k : ℕ) (x : X) → slice_get xs k ≡ Some x → k < length xs
within-at [] k x got = absurd (cc)
within-at (y ∷ xs) zero x got = omega arith
within-at (y ∷ xs) (suc k) x got = omega (arith, within-at xs k x got)

-- a node with a shape
shape-at : (ps : List Place) (k : ℕ) (s : Shape) → slice_get (shapes ps) k ≡ Some s → (p : Place) × (slice_get ps k ≡ Some p) × (p.kind ≡ s.kind) × (p.leaves ≡ s.leaves)
shape-at [] k s got = absurd (cc)
shape-at (p ∷ ps) zero s got =
    let same : shape_of p ≡ s = some_shape (shape_of p) s got in
    (p, refl, ap (λ (x : Shape). x.kind) same, ap (λ (x : Shape). x.leaves) same)
  where
    some_shape : (x y : Shape) → Some x ≡ Some y → x ≡ y
    some_shape x y e = cc
shape-at (p ∷ ps) (suc k) s got = shape-at ps k s got

-- the numbers of kids, by the shapes
kids-shapes : (ps : List Place) → map (λ (s : Shape). s.kids) (shapes ps) ≡ map (λ (p : Place). p.kids) ps
kids-shapes [] = refl
kids-shapes (p ∷ ps) = ap (λ (ks : List ℕ). p.kids ∷ ks) (kids-shapes ps)

kids-reshaped : (ps : List Place) (kinds : List NodeKind) → length kinds ≡ length ps → map (λ (s : Shape). s.kids) (reshaped ps kinds) ≡ map (λ (p : Place). p.kids) ps
kids-reshaped [] kinds size = refl
kids-reshaped (p ∷ ps) [] size = absurd (omega (arith, size))
kids-reshaped (p ∷ ps) (kind ∷ kinds) size = ap (λ (ks : List ℕ). p.kids ∷ ks) (kids-reshaped ps kinds (omega (arith, size)))

-- the nodes of two lists that tell the same
told-at : (f : Place → ℕ) (ps qs : List Place) (k : ℕ) (p q : Place) → map f qs ≡ map f ps → slice_get ps k ≡ Some p → slice_get qs k ≡ Some q → f q ≡ f p
told-at f [] qs k p q same got got_q = absurd (cc)
told-at f (x ∷ ps) [] k p q same got got_q = absurd (cc)
told-at f (x ∷ ps) (y ∷ qs) zero p q same got got_q =
    let one : x ≡ p = cc in
    let other : y ≡ q = cc in
    let here : f y ≡ f x = cc in
    sym (ap f other) ∙ (here ∙ ap f one)
told-at f (x ∷ ps) (y ∷ qs) (suc k) p q same got got_q =
    let rest : map f qs ≡ map f ps = cc in
    told-at f ps qs k p q rest got got_q

-- a tree whose root's tree has the shapes of all nodes
pub reshaped-all : {A : Type 0} (ps : List Place) (kinds : List NodeKind) (root : Node A) → IsFlat ps → HaveDepths ps → HasKinds ps kinds → take 0 (reshaped ps kinds) ++ shapes (nodes_of (root ∷ [])) ≡ take (length ps) (reshaped ps kinds) → IsReshaped ps kinds (places root)
reshaped-all ps kinds root flat depths has all = record { nodes = size; shaped = shaped-tree root; each = each; floors = floors }
  where
    tree : List Place
    tree = places root

    t : List Shape
    t = reshaped ps kinds

    same : shapes tree ≡ t
    same =
        ap shapes (sym (append-nil tree)) ∙
        (all ∙ (ap (λ (n : ℕ). take n t) (sym (length-reshaped ps kinds has.nodes)) ∙ take-length t))

    size : length tree ≡ length ps
    size = sym (length-map tree shape_of) ∙ (ap length same ∙ length-reshaped ps kinds has.nodes)

    counts : (k : ℕ) → leaf_count (take k tree) ≡ leaf_count (take k ps)
    counts k =
        sym (counted-shapes (take k tree)) ∙
        (ap counted (sym (take-map shape_of k tree)) ∙
        (ap (λ (ss : List Shape). counted (take k ss)) same ∙ counted-reshaped ps kinds k has))

    kids : map (λ (p : Place). p.kids) tree ≡ map (λ (p : Place). p.kids) ps
    kids = sym (kids-shapes tree) ∙ (ap (λ (ss : List Shape). map (λ (s : Shape). s.kids) ss) same ∙ kids-reshaped ps kinds has.nodes)

    deep : map (λ (p : Place). p.depth) tree ≡ map (λ (p : Place). p.depth) ps
    deep = have-depths root ∙ (ap (depths_by (0 ∷ [])) kids ∙ sym depths)

    each : (k : ℕ) (p : Place) → slice_get ps k ≡ Some p → (q : Place) × (slice_get tree k ≡ Some q) × (slice_get kinds k ≡ Some q.kind) × (q.first ≡ p.first) × (q.leaves ≡ p.leaves) × (q.depth ≡ p.depth)
    each k p got =
        let kind = some-at kinds k (omega (arith, within-at ps k p got, has.nodes)) in
        let q = shape-at tree k (record { kind = kind.0; leaves = p.leaves; kids = p.kids }) (ap (λ (ss : List Shape). slice_get ss k) same ∙ reshaped-at ps kinds k p kind.0 got kind.1) in (
          q.0,
          q.1,
          kind.1 ∙ ap (λ (x : NodeKind). Some x) (sym q.2),
          (shaped-tree root k q.0 q.1).first ∙ (counts k ∙ sym (flat.shaped k p got).first),
          q.3,
          told-at (λ (x : Place). x.depth) ps tree k p q.0 deep got q.1,
        )

    floors : (k : ℕ) (q : Place) → slice_get tree k ≡ Some q → q.floors ≡ sum_over (leaf_range q.first q.leaves) (limits tree).floors
    floors k q got =
        let range : q.first + q.leaves ≤ length (floors_in (places root)) = omega (arith, (ordered-tree root).bounded k q got, length-floors_in (places root)) in
        summed-tree root k q got ∙ sym (sum_over-range q.first q.leaves (floors_in (places root)) range)

-- the only tree of a row
pub lone-root : {A : Type 0} (ps : List Place) (kinds : List NodeKind) (last : ℕ) (trees rest : List (Node A)) (root : Node A) → length trees ≡ 1 → trees ≡ rest ++ root ∷ [] → take 0 (reshaped ps kinds) ++ shapes (nodes_of trees) ≡ take last (reshaped ps kinds) → take 0 (reshaped ps kinds) ++ shapes (nodes_of (root ∷ [])) ≡ take last (reshaped ps kinds)
lone-root {A} ps kinds last trees rest root one is all = go rest is
  where
    go : (r : List (Node A)) → trees ≡ r ++ root ∷ [] → take 0 (reshaped ps kinds) ++ shapes (nodes_of (root ∷ [])) ≡ take last (reshaped ps kinds)
    go [] e = ap (λ ns. take 0 (reshaped ps kinds) ++ shapes (nodes_of ns)) (sym e) ∙ all
    go (x ∷ r) e = absurd (omega (arith, one, ap length e, length-append r (root ∷ [])))
