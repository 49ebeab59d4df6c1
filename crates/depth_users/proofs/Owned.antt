-- The users of leaves, node by node; and that they are users of the tree.
use Rattle.std.proofs.Common.{◌≡◌, ℕ, zero, suc, ◌+◌, ◌<◌, ◌≤◌, ◌&&◌, Bool, true, false, List, [], ◌∷◌, length, take, refl, sym, ap, ◌∙◌, subst, arith, ◌⊎◌, inl, inr, Option, Some, None}
use Rattle.std.specs.Prelude.{IsTrue, slice_get, slice_index}
use Rattle.std.specs.Option.{option_and_then}
use Rattle.std.proofs.lemmas.Bool.{and_from, and_parts, cases_Bool, cases_eq, cases_lt, false≢true}
use Rattle.std.proofs.lemmas.Option.{slice_get_within}
use Rattle.limit_tree.specs.Sharing.{Branch as SharedBranch, IsBranch, IsInside, IsNested}
use Rattle.limit_tree.specs.declared.place.NodeKind.{NodeKind}
use Rattle.limit_tree.specs.declared.place.NodeKind.TheVariants.{Branch, Leaf}
use Rattle.limit_tree.specs.declared.place.Place.{Place}
use Rattle.limit_tree.specs.Depths.{LaterIsDeeper}
use Rattle.limit_tree.specs.Flat.{IsFlat}
use Rattle.limit_tree.specs.Outline.{branch_of, leaf_count, leaf_range, limits}
use Rattle.limit_tree.proofs.Hops.{same-node}
use Rattle.limit_tree.proofs.Nested.{branch_place, in_range, IsPlaceOf}
use Rattle.limit_tree.proofs.Places.{own_leaves, leaf_count-cons}
use Rattle.limit_tree.proofs.RangeSums.{leaf_range-inside}
use Rattle.grant_certificate.specs.Users.{leaves_of, HasUsers}
use Rattle.grant_certificate.proofs.UserSums.{any_below, any-from, any-found, leaf_inside, leaf_owner, own_leaf}
use Rattle.depth_users.specs.Owners.{AreOwners, IsOver, IsUserOf}

-- ---- of two nodes with a common leaf the later lies inside the other

some_place : (x y : Place) → Some x ≡ Some y → x ≡ y
some_place x y e = cc

-- the leaves before a node are more than those before an earlier leaf
counted-after : (ps : List Place) (u k : ℕ) (p : Place) (want floor : ℕ) → slice_get ps u ≡ Some p → p.kind ≡ Leaf want floor → u < k → leaf_count (take u ps) + 1 ≤ leaf_count (take k ps)
counted-after [] u k p want floor got kind less = absurd (cc)
counted-after (x ∷ ps) zero zero p want floor got kind less = absurd (omega arith)
counted-after (x ∷ ps) zero (suc k) p want floor got kind less =
    let one : own_leaves x.kind ≡ 1 = ap (λ (q : Place). own_leaves q.kind) (some_place x p got) ∙ ap own_leaves kind in
    omega (arith, one, leaf_count-cons x (take k ps))
counted-after (x ∷ ps) (suc u) zero p want floor got kind less = absurd (omega arith)
counted-after (x ∷ ps) (suc u) (suc k) p want floor got kind less =
    omega (arith, counted-after ps u k p want floor got kind (omega arith), leaf_count-cons x (take u ps), leaf_count-cons x (take k ps))

-- no later node has an earlier leaf
none-after : (ps : List Place) (u k i : ℕ) (p q : Place) (want floor : ℕ) → IsFlat ps → slice_get ps u ≡ Some p → slice_get ps k ≡ Some q → p.kind ≡ Leaf want floor → u < k
    → IsTrue (leaf_range p.first p.leaves i) → IsTrue (leaf_range q.first q.leaves i) → ⊥
none-after ps u k i p q want floor flat got other kind less held also =
    let here = flat.shaped u p got in
    let there = flat.shaped k q other in
    let one = (here.leaf want floor kind).1 in
    let low = in_range p.first p.leaves i held in
    let high = in_range q.first q.leaves i also in
    absurd (omega (arith, counted-after ps u k p want floor got kind less, here.first, there.first, one, low.1, high.0))

abbrev own_branch : Option ℕ → Place → SharedBranch
own_branch limit p = record { limit = limit; holds = leaf_range p.first p.leaves }

is-own : (ps : List Place) (k : ℕ) (p : Place) (limit : Option ℕ) → slice_get ps k ≡ Some p → p.kind ≡ Branch limit → IsBranch (limits ps) k (own_branch limit p)
is-own ps k p limit got kind = ap (option_and_then (λ (x : Place). branch_of x.kind x.first x.leaves)) got ∙ ap (λ (x : NodeKind). branch_of x p.first p.leaves) kind

nodes-inside : (ps : List Place) (u k i : ℕ) (p q : Place) → IsFlat ps → slice_get ps u ≡ Some p → slice_get ps k ≡ Some q → u ≤ k
    → IsTrue (leaf_range p.first p.leaves i) → IsTrue (leaf_range q.first q.leaves i) → IsInside (leaf_range q.first q.leaves) (leaf_range p.first p.leaves)
nodes-inside ps u k i p q flat got other le held also = elim (cases_eq u k) [
  | inl e ↦
      let same : p ≡ q = same-node ps k p q (ap (slice_get ps) (sym e) ∙ got) other in
      λ j h. subst (λ (x : Place). IsTrue (leaf_range x.first x.leaves j)) (sym same) h
  | inr ne ↦ go p.kind q.kind refl refl (omega (arith, le, ne))
]
  where
    go : (a b : NodeKind) → p.kind ≡ a → q.kind ≡ b → u < k → IsInside (leaf_range q.first q.leaves) (leaf_range p.first p.leaves)
    go (Leaf want floor) b kind also_kind less = absurd (none-after ps u k i p q want floor flat got other kind less held also)
    go (Branch limit) (Leaf want floor) kind also_kind less = λ j h.
        let one = ((flat.shaped k q other).leaf want floor also_kind).1 in
        let at = in_range q.first q.leaves j h in
        let there = in_range q.first q.leaves i also in
        let same : i ≡ j = omega (arith, one, at.0, at.1, there.0, there.1) in
        subst (λ (n : ℕ). IsTrue (leaf_range p.first p.leaves n)) same held
    go (Branch limit) (Branch inner) kind also_kind less =
        flat.later u k i (own_branch limit p) (own_branch inner q) (is-own ps u p limit got kind) (is-own ps k q inner other also_kind) le held also

-- ---- the users are users of the tree

-- a node over a leaf is before each node with that leaf that is below the depth
before-low : (ps : List Place) (depth i v k : ℕ) (q : Place) → LaterIsDeeper ps → IsOver ps depth i v → slice_get ps k ≡ Some q → IsTrue (leaf_range q.first q.leaves i) → (k ≡ 0 → ⊥) → depth < q.depth → v < k
before-low ps depth i v k q deeper over got held ne low = elim (cases_lt v k) [
  | inl less ↦ less
  | inr past ↦ elim (cases_eq v k) [
    | inl e ↦
        let same : over.place ≡ q = same-node ps k over.place q (ap (slice_get ps) (sym e) ∙ over.found) got in
        let depths : over.place.depth ≡ q.depth = ap (λ (x : Place). x.depth) same in
        absurd (elim over.high [ inl root ↦ ne (sym e ∙ root) | inr high ↦ absurd (omega (arith, depths, low, high)) ])
    | inr other ↦
        let before : k < v = omega (arith, past, other) in
        let lower = deeper k v i q over.place got over.found before held over.holds in
        absurd (elim over.high [ inl root ↦ absurd (omega (arith, root, before)) | inr high ↦ absurd (omega (arith, lower, low, high)) ])
  ]
]

pub owners-have : (ps : List Place) (depth : ℕ) (owners : List ℕ) → IsFlat ps → LaterIsDeeper ps → AreOwners ps depth owners → HasUsers (limits ps) (length ps) owners
owners-have ps depth owners flat deeper are = record {
  each = are.each;
  few = λ i l. let user = are.user i l in slice_get_within ps (slice_index owners i) user.over.place user.over.found;
  nested = λ k u b is. elim (cases_Bool (any_below (length owners) (λ i. b.holds i && leaves_of owners u i))) [
    | inl some ↦
        let leaf = any-found (length owners) (λ i. b.holds i && leaves_of owners u i) some in
        let both = and_parts (b.holds leaf.0) (leaves_of owners u leaf.0) leaf.2 in
        with_leaf k u b (branch_place ps k b is) is leaf.0 both.0 both.1
    | inr none ↦ inr (inr (λ i held own.
        absurd (false≢true (sym none ∙ any-from (length owners) (λ j. b.holds j && leaves_of owners u j) i (leaf_inside owners u i own) (and_from (b.holds i) (leaves_of owners u i) held own)))))
  ];
}
  where
    owned : (u i : ℕ) → IsTrue (leaves_of owners u i) → IsUserOf ps depth i u
    owned u i own = subst (λ (v : ℕ). IsUserOf ps depth i v) (leaf_owner owners u i own) (are.user i (leaf_inside owners u i own))

    with_leaf : (k u : ℕ) (b : SharedBranch) (at : IsPlaceOf ps k b) → IsBranch (limits ps) k b → (i : ℕ) → IsTrue (b.holds i) → IsTrue (leaves_of owners u i) → IsNested b.holds (leaves_of owners u)
    with_leaf k u b at is i held own = elim (cases_eq k 0) [
      | inl root ↦ inr (inl (around (inl root)))
      | inr ne ↦ elim (cases_lt depth at.place.depth) [
        | inl low ↦ inl (within ne low)
        | inr high ↦ inr (inl (around (inr (omega (arith, high)))))
      ]
    ]
      where
        q : Place
        q = at.place

        in_q : (j : ℕ) → IsTrue (b.holds j) → IsTrue (leaf_range q.first q.leaves j)
        in_q j h = sym (at.holds j) ∙ h

        mine : IsUserOf ps depth i u
        mine = owned u i own

        around : (k ≡ 0) ⊎ (q.depth ≤ depth) → IsInside (leaves_of owners u) b.holds
        around high j own_j =
            let le = mine.last k (record { place = q; found = at.found; high = high; holds = in_q i held }) in
            let inside = nodes-inside ps k u i q mine.over.place flat at.found mine.over.found le (in_q i held) mine.over.holds in
            let his = owned u j own_j in
            let same : his.over.place ≡ mine.over.place = same-node ps u his.over.place mine.over.place his.over.found mine.over.found in
            at.holds j ∙ inside j (subst (λ (x : Place). IsTrue (leaf_range x.first x.leaves j)) same his.over.holds)

        within : (k ≡ 0 → ⊥) → depth < q.depth → IsInside b.holds (leaves_of owners u)
        within ne low j held_j =
            let l : j < length owners = omega (arith, are.each, flat.limit_tree.branches.leaves k j b is held_j) in
            let his = are.user j l in
            let v = slice_index owners j in
            let before_u = before-low ps depth i u k q deeper mine.over at.found (in_q i held) ne low in
            let before_v = before-low ps depth j v k q deeper his.over at.found (in_q j held_j) ne low in
            let u_inside = nodes-inside ps u k i mine.over.place q flat mine.over.found at.found (omega (arith, before_u)) mine.over.holds (in_q i held) in
            let v_inside = nodes-inside ps v k j his.over.place q flat his.over.found at.found (omega (arith, before_v)) his.over.holds (in_q j held_j) in
            let low_u = his.last u (record { place = mine.over.place; found = mine.over.found; high = mine.over.high; holds = u_inside j (in_q j held_j) }) in
            let low_v = mine.last v (record { place = his.over.place; found = his.over.found; high = his.over.high; holds = v_inside i (in_q i held) }) in
            let same : v ≡ u = omega (arith, low_u, low_v) in
            subst (λ (w : ℕ). IsTrue (leaves_of owners w j)) same (own_leaf owners j l)

-- ---- node by node

-- the users after the first nodes: of these nodes, the last over each leaf
pub record AreOwnedBelow (ps : List Place) (depth node : ℕ) (owners : List ℕ) : Type 0 where
  pub each : length owners ≡ length (limits ps).wants
  pub over : 0 < node → (i : ℕ) → i < length owners → IsOver ps depth i (slice_index owners i)
  pub last : (i n : ℕ) → i < length owners → n < node → IsOver ps depth i n → n ≤ slice_index owners i

-- the root has all leaves
root-has : (ps : List Place) (p : Place) (i : ℕ) → IsFlat ps → slice_get ps 0 ≡ Some p → i < length (limits ps).wants → IsTrue (leaf_range p.first p.leaves i)
root-has ps p i flat got less =
    let root = flat.root in
    let same : root.0 ≡ p = same-node ps 0 root.0 p root.1 got in
    subst (λ (x : Place). IsTrue (leaf_range x.first x.leaves i)) same (leaf_range-inside root.0.first root.0.leaves i (omega (arith, root.2)) (omega (arith, less, root.2, root.3.1)))

pub owned-none : (ps : List Place) (depth : ℕ) (owners : List ℕ) → length owners ≡ length (limits ps).wants → AreOwnedBelow ps depth 0 owners
owned-none ps depth owners each = record {
  each = each;
  over = λ some. absurd (omega (arith, some));
  last = λ i n l less. absurd (omega (arith, less));
}

-- a node that may be a user
pub owned-more : (ps : List Place) (depth node : ℕ) (p : Place) (old new : List ℕ) → IsFlat ps → AreOwnedBelow ps depth node old → slice_get ps node ≡ Some p → (node ≡ 0) ⊎ (p.depth ≤ depth) → length new ≡ length old
    → ((i : ℕ) → IsTrue (leaf_range p.first p.leaves i) → slice_index new i ≡ node) → ((i : ℕ) → leaf_range p.first p.leaves i ≡ false → slice_index new i ≡ slice_index old i)
    → AreOwnedBelow ps depth (node + 1) new
owned-more ps depth node p old new flat was got high size own others = record {
  each = size ∙ was.each;
  over = λ some i l. elim (cases_Bool (leaf_range p.first p.leaves i)) [
    | inl held ↦ subst (λ (n : ℕ). IsOver ps depth i n) (sym (own i held)) (record { place = p; found = got; high = high; holds = held })
    | inr out ↦ subst (λ (n : ℕ). IsOver ps depth i n) (sym (others i out)) (was.over (not_first i out (omega (arith, l, size))) i (omega (arith, l, size)))
  ];
  last = λ i n l less over. elim (cases_Bool (leaf_range p.first p.leaves i)) [
    | inl held ↦ omega (arith, less, own i held)
    | inr out ↦ elim (cases_lt n node) [
      | inl before ↦ omega (arith, others i out, was.last i n (omega (arith, l, size)) before over)
      | inr past ↦
          let e : n ≡ node = omega (arith, less, past) in
          let same : over.place ≡ p = same-node ps node over.place p (ap (slice_get ps) (sym e) ∙ over.found) got in
          absurd (false≢true (sym out ∙ subst (λ (x : Place). IsTrue (leaf_range x.first x.leaves i)) same over.holds))
    ]
  ];
}
  where
    not_first : (i : ℕ) → leaf_range p.first p.leaves i ≡ false → i < length old → 0 < node
    not_first i out l = elim (cases_eq node 0) [
      | inl e ↦ absurd (false≢true (sym out ∙ root-has ps p i flat (ap (slice_get ps) (sym e) ∙ got) (omega (arith, l, was.each))))
      | inr ne ↦ omega (arith, ne)
    ]

-- any other node
pub owned-same : (ps : List Place) (depth node : ℕ) (p : Place) (owners : List ℕ) → AreOwnedBelow ps depth node owners → slice_get ps node ≡ Some p → ((node ≡ 0) ⊎ (p.depth ≤ depth) → ⊥) → AreOwnedBelow ps depth (node + 1) owners
owned-same ps depth node p owners was got low = record {
  each = was.each;
  over = λ some i l. was.over (elim (cases_eq node 0) [ inl e ↦ absurd (low (inl e)) | inr ne ↦ omega (arith, ne) ]) i l;
  last = λ i n l less over. elim (cases_lt n node) [
    | inl before ↦ was.last i n l before over
    | inr past ↦
        let e : n ≡ node = omega (arith, less, past) in
        let same : over.place ≡ p = same-node ps node over.place p (ap (slice_get ps) (sym e) ∙ over.found) got in
        absurd (low (elim over.high [ inl root ↦ inl (sym e ∙ root) | inr high ↦ inr (subst (λ (x : Place). x.depth ≤ depth) same high) ]))
  ];
}

-- all nodes
pub owned-all : (ps : List Place) (depth : ℕ) (owners : List ℕ) → IsFlat ps → AreOwnedBelow ps depth (length ps) owners → AreOwners ps depth owners
owned-all ps depth owners flat are = record {
  each = are.each;
  user = λ i l. record {
    over = are.over (let some = slice_get_within ps 0 flat.root.0 flat.root.1 in omega (arith, some)) i l;
    last = λ n over. are.last i n l (slice_get_within ps n over.place over.found) over;
  };
}
