-- The branches and leaves of a tree of the same shape as another.
use Rattle.std.proofs.Common.{◌≡◌, ℕ, zero, suc, ◌+◌, ◌<◌, ◌≤◌, Bool, true, false, cond, List, [], ◌∷◌, length, take, refl, sym, ap, ◌∙◌, subst, arith, ◌⊎◌, inl, inr, Option, Some, None}
use Rattle.std.specs.Prelude.{nat_eq, IsTrue, slice_get, slice_index}
use Rattle.std.specs.List.{cons_option}
use Rattle.std.specs.Option.{option_and_then}
use Rattle.std.proofs.lemmas.Bool.{cases_lt, cases_Bool, eqb-true, eq-eqb, false≢true}
use Rattle.limit_tree.specs.Sharing.{Branch as SharedBranch, HasNestedBranches, IsBranch, IsInside, IsNested}
use Rattle.limit_tree.specs.declared.place.NodeKind.{NodeKind}
use Rattle.limit_tree.specs.declared.place.NodeKind.TheVariants.{Branch, Leaf}
use Rattle.limit_tree.specs.declared.place.Place.{Place}
use Rattle.limit_tree.specs.Outline.{is_leaf_kind, branch_of, leaf_count, leaf_range, leaf_want, leaf_floor, limits}
use Rattle.limit_tree.specs.Flat.{IsFlat, IsShaped}
use Rattle.limit_tree.proofs.Hops.{same-node}
use Rattle.limit_tree.proofs.Leaves.{wants_in, floors_in, length-wants_in}
use Rattle.limit_tree.proofs.Nested.{branch_place, in_range}
use Rattle.limit_tree.proofs.Places.{own_leaves, leaf_count-cons}
use Rattle.limit_tree.proofs.RangeSums.{leaf_range-inside}
use Rattle.limit_tree.proofs.Reported.{reported}
use Rattle.limit_tree.proofs.Rows.{leaf_numbers}
use Rattle.grant_certificate.specs.Users.{leaves_of, HasUsers}
use Rattle.grant_certificate.specs.TwoStages.{IsTightOf, IsUserBranch}
use Rattle.grant_certificate.proofs.UserSums.{leaf_owner, leaf_inside, any_below, any-from, any-found}
use Rattle.user_shares.specs.Kinds.{AreAlike, AreKinds, IsInnerKind, IsOuterKind, IsOwned, IsTightKind, KnowsUsers}
use Rattle.user_shares.specs.Nodes.{AreUsers}
use Rattle.user_shares.specs.Rebuilt.{HasKinds, IsReshaped}
use Rattle.user_shares.specs.Stages.{IsHead, IsInnerTree, IsOuterTree, HaveHeads}
use Rattle.user_shares.proofs.Kinded.{knows-of}
use Rattle.user_shares.proofs.Reshaping.{branch-kind, some-at, within-at}

-- leaves for leaves, and branches for branches
abbrev pub KeepsKinds : (ℕ → Place → NodeKind → Type 0) → Type 0
KeepsKinds has = (k : ℕ) (p : Place) (kind : NodeKind) → has k p kind → is_leaf_kind kind ≡ is_leaf_kind p.kind

pub has-kinds : (outline : List Place) (has : ℕ → Place → NodeKind → Type 0) (kinds : List NodeKind) → KeepsKinds has → AreKinds outline has kinds → HasKinds outline kinds
has-kinds outline has kinds keeps are = record { nodes = are.nodes; alike = λ k p kind got is. keeps k p kind (are.each k p kind got is) }

pub alike-of : (outline : List Place) (has : ℕ → Place → NodeKind → Type 0) (kinds : List NodeKind) (tree : List Place) → AreKinds outline has kinds → IsReshaped outline kinds tree → AreAlike outline has tree
alike-of outline has kinds tree are reshaped = record {
  nodes = reshaped.nodes;
  each = λ k p got. let r = reshaped.each k p got in (r.0, r.1, are.each k p r.0.kind got r.2, r.3, r.4);
}

-- a node of the tree for a node
pub alike-at : (outline tree : List Place) (has : ℕ → Place → NodeKind → Type 0) (k : ℕ) (p q : Place) → AreAlike outline has tree → slice_get outline k ≡ Some p → slice_get tree k ≡ Some q → has k p q.kind × (q.first ≡ p.first) × (q.leaves ≡ p.leaves)
alike-at outline tree has k p q alike got got_q =
    let e = alike.each k p got in
    subst (λ (x : Place). has k p x.kind × (x.first ≡ p.first) × (x.leaves ≡ p.leaves)) (same-node tree k e.0 q e.1 got_q) (e.2, e.3, e.4)

-- a branch of the tree, and the node that it is of the shape of
pub record IsPaired (outline : List Place) (has : ℕ → Place → NodeKind → Type 0) (k : ℕ) (a : SharedBranch) : Type 0 where
  pub place : Place
  pub found : slice_get outline k ≡ Some place
  pub pair : has k place (Branch a.limit)
  pub holds : (i : ℕ) → a.holds i ≡ leaf_range place.first place.leaves i

pub alike-branch : (outline tree : List Place) (has : ℕ → Place → NodeKind → Type 0) (k : ℕ) (a : SharedBranch) → AreAlike outline has tree → IsBranch (limits tree) k a → IsPaired outline has k a
alike-branch outline tree has k a alike is =
    let q = branch_place tree k a is in
    let p = some-at outline k (omega (arith, within-at tree k q.place q.found, alike.nodes)) in
    let e = alike.each k p.0 p.1 in
    let same : e.0 ≡ q.place = same-node tree k e.0 q.place e.1 q.found in
    let kind : e.0.kind ≡ Branch a.limit = ap (λ (x : Place). x.kind) same ∙ q.kind in
    let first : q.place.first ≡ p.0.first = ap (λ (x : Place). x.first) (sym same) ∙ e.3 in
    let leaves : q.place.leaves ≡ p.0.leaves = ap (λ (x : Place). x.leaves) (sym same) ∙ e.4 in
    record {
      place = p.0;
      found = p.1;
      pair = subst (λ (x : NodeKind). has k p.0 x) kind e.2;
      holds = λ i. q.holds i ∙ (ap (λ (x : ℕ). leaf_range x q.place.leaves i) first ∙ ap (λ (x : ℕ). leaf_range p.0.first x i) leaves);
    }

-- the branch of the tree for a branch
pub alike-back : (outline tree : List Place) (has : ℕ → Place → NodeKind → Type 0) (k : ℕ) (p : Place) → KeepsKinds has → AreAlike outline has tree → slice_get outline k ≡ Some p → is_leaf_kind p.kind ≡ false → (a : SharedBranch) × IsBranch (limits tree) k a × has k p (Branch a.limit) × ((i : ℕ) → a.holds i ≡ leaf_range p.first p.leaves i)
alike-back outline tree has k p keeps alike got branch =
    let e = alike.each k p got in
    let q = e.0 in
    let kind = branch-kind q.kind (keeps k p q.kind e.2 ∙ branch) in (
      record { limit = kind.0; holds = leaf_range q.first q.leaves },
      ap (option_and_then (λ (x : Place). branch_of x.kind x.first x.leaves)) e.1 ∙ ap (λ (x : NodeKind). branch_of x q.first q.leaves) kind.1,
      subst (λ (x : NodeKind). has k p x) kind.1 e.2,
      λ i. ap (λ (x : ℕ). leaf_range x q.leaves i) e.3 ∙ ap (λ (x : ℕ). leaf_range p.first x i) e.4,
    )

-- a node of the same kind is the same branch
pub same-branch : (outline tree : List Place) (has : ℕ → Place → NodeKind → Type 0) (k : ℕ) (p : Place) → (alike : AreAlike outline has tree) → (got : slice_get outline k ≡ Some p) → (alike.each k p got).0.kind ≡ p.kind → (limits tree).branch k ≡ (limits outline).branch k
same-branch outline tree has k p alike got kind =
    let e = alike.each k p got in
    let q = e.0 in
    ap (option_and_then (λ (x : Place). branch_of x.kind x.first x.leaves)) e.1 ∙
    (ap (λ (x : NodeKind). branch_of x q.first q.leaves) kind ∙
    (ap (λ (x : ℕ). branch_of p.kind x q.leaves) e.3 ∙
    (ap (λ (x : ℕ). branch_of p.kind p.first x) e.4 ∙
    sym (ap (option_and_then (λ (x : Place). branch_of x.kind x.first x.leaves)) got))))

-- lists of nodes whose leaves tell the same
pub told-same : (f : NodeKind → Option ℕ) (ps qs : List Place) → length qs ≡ length ps → ((k : ℕ) (p q : Place) → slice_get ps k ≡ Some p → slice_get qs k ≡ Some q → f q.kind ≡ f p.kind) → reported f qs ≡ reported f ps
told-same f [] [] size each = refl
told-same f [] (q ∷ qs) size each = absurd (omega (arith, size))
told-same f (p ∷ ps) [] size each = absurd (omega (arith, size))
told-same f (p ∷ ps) (q ∷ qs) size each =
    let rest : reported f qs ≡ reported f ps = told-same f ps qs (omega (arith, size)) (λ k x y got_x got_y. each (suc k) x y got_x got_y) in
    ap (λ (o : Option ℕ). cons_option o (reported f qs)) (each 0 p q refl refl) ∙ ap (cons_option (f p.kind)) rest

pub counts-same : (ps qs : List Place) → length qs ≡ length ps → ((k : ℕ) (p q : Place) → slice_get ps k ≡ Some p → slice_get qs k ≡ Some q → is_leaf_kind q.kind ≡ is_leaf_kind p.kind) → leaf_count qs ≡ leaf_count ps
counts-same [] [] size each = refl
counts-same [] (q ∷ qs) size each = absurd (omega (arith, size))
counts-same (p ∷ ps) [] size each = absurd (omega (arith, size))
counts-same (p ∷ ps) (q ∷ qs) size each =
    let own : own_leaves q.kind ≡ own_leaves p.kind = ap (λ (b : Bool). cond b 1 0) (each 0 p q refl refl) in
    omega (arith, own, counts-same ps qs (omega (arith, size)) (λ k x y got_x got_y. each (suc k) x y got_x got_y), leaf_count-cons p ps, leaf_count-cons q qs)

-- a leaf is a node
abbrev IsLeafPlace : List Place → ℕ → Type 0
IsLeafPlace ps i = (k : ℕ) × (p : Place) × (slice_get ps k ≡ Some p) × (is_leaf_kind p.kind ≡ true) × (leaf_count (take k ps) ≡ i)

leaf-first : (p : Place) (ps : List Place) (i : ℕ) → is_leaf_kind p.kind ≡ true → ((j : ℕ) → j < leaf_count ps → IsLeafPlace ps j) → i < leaf_count (p ∷ ps) → IsLeafPlace (p ∷ ps) i
leaf-first p ps zero leaf rest less = (0, p, refl, leaf, refl)
leaf-first p ps (suc j) leaf rest less =
    let own : own_leaves p.kind ≡ 1 = ap (λ (b : Bool). cond b 1 0) leaf in
    let at = rest j (omega (arith, less, own, leaf_count-cons p ps)) in
    (suc at.0, at.1, at.2, at.3, omega (arith, at.4, own, leaf_count-cons p (take at.0 ps)))

leaf-later : (p : Place) (ps : List Place) (i : ℕ) → is_leaf_kind p.kind ≡ false → ((j : ℕ) → j < leaf_count ps → IsLeafPlace ps j) → i < leaf_count (p ∷ ps) → IsLeafPlace (p ∷ ps) i
leaf-later p ps i branch rest less =
    let own : own_leaves p.kind ≡ 0 = ap (λ (b : Bool). cond b 1 0) branch in
    let at = rest i (omega (arith, less, own, leaf_count-cons p ps)) in
    (suc at.0, at.1, at.2, at.3, omega (arith, at.4, own, leaf_count-cons p (take at.0 ps)))

pub leaf-place : (ps : List Place) (i : ℕ) → i < leaf_count ps → IsLeafPlace ps i
leaf-place [] i less = absurd (omega arith)
leaf-place (p ∷ ps) i less = elim (cases_Bool (is_leaf_kind p.kind)) [
  | inl leaf ↦ leaf-first p ps i leaf (leaf-place ps) less
  | inr branch ↦ leaf-later p ps i branch (leaf-place ps) less
]

-- the leaves of an owned node are of one user
owned-set : (owners : List ℕ) (p : Place) (b : SharedBranch) → ((i : ℕ) → b.holds i ≡ leaf_range p.first p.leaves i) → IsOwned owners p → IsInside b.holds (leaves_of owners (slice_index owners p.first))
owned-set owners p b holds owned i held = owned.own i (sym (holds i) ∙ held)

pub set-owned : (owners : List ℕ) (p : Place) (b : SharedBranch) (u i : ℕ) → ((j : ℕ) → b.holds j ≡ leaf_range p.first p.leaves j) → IsTrue (b.holds i) → IsInside b.holds (leaves_of owners u) → IsOwned owners p
set-owned owners p b u i holds held inside =
    let at = in_range p.first p.leaves i (sym (holds i) ∙ held) in
    let first : IsTrue (leaf_range p.first p.leaves p.first) = leaf_range-inside p.first p.leaves p.first (omega arith) (omega (arith, at.0, at.1)) in
    let owner : slice_index owners p.first ≡ u = leaf_owner owners u p.first (inside p.first (holds p.first ∙ first)) in
    record {
      some = omega (arith, at.0, at.1);
      own = λ j in_p. subst (λ (w : ℕ). IsTrue (leaves_of owners w j)) (sym owner) (inside j (holds j ∙ in_p));
    }

pub branch-limit : (x y : Option ℕ) → Branch x ≡ Branch y → x ≡ y
branch-limit x y e = cc

-- a branch of the tree itself
abbrev pub own_branch : Option ℕ → Place → SharedBranch
own_branch limit p = record { limit = limit; holds = leaf_range p.first p.leaves }

pub is-own : (outline : List Place) (k : ℕ) (p : Place) (limit : Option ℕ) → slice_get outline k ≡ Some p → p.kind ≡ Branch limit → IsBranch (limits outline) k (own_branch limit p)
is-own outline k p limit got kind = ap (option_and_then (λ (x : Place). branch_of x.kind x.first x.leaves)) got ∙ ap (λ (x : NodeKind). branch_of x p.first p.leaves) kind

pub inner-keeps : (owners : List ℕ) → KeepsKinds (IsInnerKind owners)
inner-keeps owners k p kind is = is.alike

pub outer-keeps : (owners most floors : List ℕ) → KeepsKinds (IsOuterKind owners most floors)
outer-keeps owners most floors k p kind is = is.alike

pub tight-keeps : (users totals : List ℕ) → KeepsKinds (IsTightKind users totals)
tight-keeps users totals k p kind is = is.alike

no-want : (kind : NodeKind) → is_leaf_kind kind ≡ false → leaf_want kind ≡ None
no-want (Branch limit) branch = refl
no-want (Leaf want floor) branch = absurd (cc)

no-floor : (kind : NodeKind) → is_leaf_kind kind ≡ false → leaf_floor kind ≡ None
no-floor (Branch limit) branch = refl
no-floor (Leaf want floor) branch = absurd (cc)

-- leaves that are the same tell the same
leaves-same : (f : NodeKind → Option ℕ) → ((kind : NodeKind) → is_leaf_kind kind ≡ false → f kind ≡ None) → (x y : NodeKind) → is_leaf_kind x ≡ is_leaf_kind y → (is_leaf_kind y ≡ true → x ≡ y) → f x ≡ f y
leaves-same f none x y alike leaf = elim (cases_Bool (is_leaf_kind y)) [
  | inl is ↦ ap f (leaf is)
  | inr not_leaf ↦ none x (alike ∙ not_leaf) ∙ sym (none y not_leaf)
]

-- what the leaves of a tree of the same shape, with the same leaves, tell
told-alike : (f : NodeKind → Option ℕ) (outline tree : List Place) (has : ℕ → Place → NodeKind → Type 0) → ((kind : NodeKind) → is_leaf_kind kind ≡ false → f kind ≡ None) → KeepsKinds has → ((k : ℕ) (p : Place) (kind : NodeKind) → slice_get outline k ≡ Some p → has k p kind → is_leaf_kind p.kind ≡ true → kind ≡ p.kind) → AreAlike outline has tree → reported f tree ≡ reported f outline
told-alike f outline tree has none keeps leaf alike = told-same f outline tree alike.nodes (λ k p q got got_q.
    let e = alike.each k p got in
    let same : e.0 ≡ q = same-node tree k e.0 q e.1 got_q in
    subst (λ (x : Place). f x.kind ≡ f p.kind) same (leaves-same f none e.0.kind p.kind (keeps k p e.0.kind e.2) (leaf k p e.0.kind got e.2)))

pub inner-tree : (outline tree : List Place) (owners : List ℕ) → AreAlike outline (IsInnerKind owners) tree → IsInnerTree (limits outline) owners (limits tree)
inner-tree outline tree owners alike = record {
  wants = told-alike leaf_want outline tree (IsInnerKind owners) no-want (inner-keeps owners) (λ k p kind got is. is.leaf) alike;
  floors = told-alike leaf_floor outline tree (IsInnerKind owners) no-floor (inner-keeps owners) (λ k p kind got is. is.leaf) alike;
  from = λ k most a is limit.
      let pair = alike-branch outline tree (IsInnerKind owners) k a alike is in
      let p = pair.place in
      let limited = pair.pair.limited most (ap (λ (x : Option ℕ). Branch x) limit) in
      let kind : p.kind ≡ Branch a.limit = sym limited.1 in (
        own_branch a.limit p,
        is-own outline k p a.limit pair.found kind,
        limit,
        pair.holds,
        slice_index owners p.first,
        limited.0.own,
      );
  kept = λ k u i b is held inside.
      let at = branch_place outline k b is in
      let p = at.place in
      let owned = set-owned owners p b u i at.holds held inside in
      let back = alike-back outline tree (IsInnerKind owners) k p (inner-keeps owners) alike at.found (ap is_leaf_kind at.kind) in
      (back.0, back.1, branch-limit back.0.limit b.limit (back.2.inner owned ∙ at.kind), λ j. back.3 j ∙ sym (at.holds j));
}

-- the node of a leaf
leaf-node : (outline : List Place) (i : ℕ) → IsShaped outline → i < length (limits outline).wants → (k : ℕ) × (p : Place) × (slice_get outline k ≡ Some p) × (p.first ≡ i) × (is_leaf_kind p.kind ≡ true)
leaf-node outline i shaped l =
    let at = leaf-place outline i (omega (arith, l, length-wants_in outline)) in
    (at.0, at.1, at.2, (shaped at.0 at.1 at.2).first ∙ at.4, at.3)

-- what a leaf of the tree tells
alike-told : (outline tree : List Place) (has : ℕ → Place → NodeKind → Type 0) (i k want floor : ℕ) (p : Place) → IsShaped tree → (alike : AreAlike outline has tree) → (got : slice_get outline k ≡ Some p) → p.first ≡ i → (alike.each k p got).0.kind ≡ Leaf want floor → (slice_index (limits tree).wants i ≡ want) × (slice_index (limits tree).floors i ≡ floor)
alike-told outline tree has i k want floor p shaped alike got first kind =
    let e = alike.each k p got in
    subst (λ (x : ℕ). (slice_index (limits tree).wants x ≡ want) × (slice_index (limits tree).floors x ≡ floor)) (e.3 ∙ first) (leaf_numbers tree k e.0 want floor shaped e.1 kind)

-- a leaf that is not the first of its user wants nothing, and has no floor
pub outer-other : (outline tree : List Place) (owners most floors : List ℕ) → IsShaped outline → IsShaped tree → AreAlike outline (IsOuterKind owners most floors) tree → (i : ℕ) → i < length (limits outline).wants → (IsHead owners i → ⊥) → (slice_index (limits tree).wants i ≡ 0) × (slice_index (limits tree).floors i ≡ 0)
outer-other outline tree owners most floors shaped shaped_tree alike i l not_head =
    let at = leaf-node outline i shaped l in
    let e = alike.each at.0 at.1 at.2 in
    alike-told outline tree (IsOuterKind owners most floors) i at.0 0 0 at.1 shaped_tree alike at.2 at.3 (e.2.other at.4 (λ head. not_head (subst (λ (x : ℕ). IsHead owners x) at.3 head)))

pub outer-tree : (outline tree : List Place) (owners most floors : List ℕ) → IsFlat outline → IsShaped tree → AreAlike outline (IsOuterKind owners most floors) tree → IsOuterTree (limits outline) owners most floors (limits tree)
outer-tree outline tree owners most floors flat shaped_tree alike = record {
  leaves = length-wants_in tree ∙ (counts ∙ sym (length-wants_in outline));
  head = λ i l head. numbers i l (λ leaf at. leaf.head at (subst (λ (x : ℕ). IsHead owners x) (sym (place i l).3) head));
  other = λ i l not_head. (outer-other outline tree owners most floors flat.shaped shaped_tree alike i l not_head).0;
  from = λ k limit a is is_limit.
      let pair = alike-branch outline tree has k a alike is in
      let p = pair.place in
      let limited = pair.pair.limited limit (ap (λ (x : Option ℕ). Branch x) is_limit) in (
        own_branch a.limit p,
        is-own outline k p a.limit pair.found (sym limited.1),
        is_limit,
        pair.holds,
        λ u i held inside. limited.0 (set-owned owners p (own_branch a.limit p) u i (λ j. refl) held inside),
      );
  kept = λ k b is none.
      let at = branch_place outline k b is in
      let p = at.place in
      let back = alike-back outline tree has k p (outer-keeps owners most floors) alike at.found (ap is_leaf_kind at.kind) in (
        back.0,
        back.1,
        branch-limit back.0.limit b.limit (back.2.around (ap is_leaf_kind at.kind) (λ owned. none (slice_index owners p.first) (owned-set owners p b at.holds owned)) ∙ at.kind),
        λ j. back.3 j ∙ sym (at.holds j),
      );
}
  where
    has : ℕ → Place → NodeKind → Type 0
    has = IsOuterKind owners most floors

    counts : leaf_count tree ≡ leaf_count outline
    counts = counts-same outline tree alike.nodes (λ k p q got got_q.
        let e = alike.each k p got in
        let same : e.0 ≡ q = same-node tree k e.0 q e.1 got_q in
        subst (λ (x : Place). is_leaf_kind x.kind ≡ is_leaf_kind p.kind) same (e.2.alike))

    place : (i : ℕ) → i < length (limits outline).wants → (k : ℕ) × (p : Place) × (slice_get outline k ≡ Some p) × (p.first ≡ i) × (is_leaf_kind p.kind ≡ true)
    place i l = leaf-node outline i flat.shaped l

    numbers : (i : ℕ) (l : i < length (limits outline).wants) → ((leaf : has (place i l).0 (place i l).1 (alike.each (place i l).0 (place i l).1 (place i l).2).0.kind) → is_leaf_kind (place i l).1.kind ≡ true → (alike.each (place i l).0 (place i l).1 (place i l).2).0.kind ≡ Leaf (slice_index most (slice_index owners (place i l).1.first)) (slice_index floors (slice_index owners (place i l).1.first))) → (slice_index (limits tree).wants i ≡ slice_index most (slice_index owners i)) × (slice_index (limits tree).floors i ≡ slice_index floors (slice_index owners i))
    numbers i l kind =
        let at = place i l in
        let e = alike.each at.0 at.1 at.2 in
        subst (λ (x : ℕ). (slice_index (limits tree).wants i ≡ slice_index most (slice_index owners x)) × (slice_index (limits tree).floors i ≡ slice_index floors (slice_index owners x))) at.3
        (alike-told outline tree has i at.0 (slice_index most (slice_index owners at.1.first)) (slice_index floors (slice_index owners at.1.first)) at.1 shaped_tree alike at.2 at.3 (kind e.2 at.4))

-- some user's branch has this number
abbrev is_user : List ℕ → ℕ → Bool
is_user users k = any_below (length users) (λ u. nat_eq (slice_index users u) k)

-- a node is the branch of a user, or of none
pub user-at : (users : List ℕ) (k : ℕ) → ((u : ℕ) × (u < length users) × (slice_index users u ≡ k)) ⊎ ((u : ℕ) → u < length users → slice_index users u ≡ k → ⊥)
user-at users k = elim (cases_Bool (is_user users k)) [
  | inl some ↦ let at = any-found (length users) (λ u. nat_eq (slice_index users u) k) some in inl (at.0, at.1, eqb-true (slice_index users at.0) k at.2)
  | inr none ↦ inr (λ u less is. false≢true (sym none ∙ any-from (length users) (λ v. nat_eq (slice_index users v) k) u less (eq-eqb (slice_index users u) k is)))
]

-- the leaves of a user's branch
pub user-range : (outline : List Place) (users owners : List ℕ) (k : ℕ) (p : Place) → AreUsers outline users owners → slice_get outline k ≡ Some p → (u : ℕ) → u < length users → slice_index users u ≡ k → (i : ℕ) → leaves_of owners u i ≡ leaf_range p.first p.leaves i
user-range outline users owners k p us got u less at i =
    let n = us.node u less in
    let same : n.place ≡ p = same-node outline k n.place p (ap (λ (m : ℕ). slice_get outline m) (sym at) ∙ n.found) got in
    subst (λ (x : Place). leaves_of owners u i ≡ leaf_range x.first x.leaves i) same (n.holds i)

pub tight-tree : (outline tree : List Place) (users owners totals : List ℕ) → AreUsers outline users owners → AreAlike outline (IsTightKind users totals) tree → IsTightOf (limits outline) (length users) owners totals (limits tree)
tight-tree outline tree users owners totals us alike = record {
  wants = told-alike leaf_want outline tree has no-want (tight-keeps users totals) leaf alike;
  floors = told-alike leaf_floor outline tree has no-floor (tight-keeps users totals) leaf alike;
  from = λ k b is.
      let pair = alike-branch outline tree has k b alike is in
      elim (user-at users k) [
        | inl found ↦ inr (found.0, found.1, user_branch k b pair found.0 found.1 found.2)
        | inr none ↦ inl (sym (old k pair.place pair.found none) ∙ is)
      ];
  users_are = λ u less.
      let n = us.node u less in
      let back = alike-back outline tree has (slice_index users u) n.place (tight-keeps users totals) alike n.found n.branch in (
        slice_index users u,
        back.0,
        back.1,
        record {
          limit = branch-limit back.0.limit (Some (slice_index totals u)) (back.2.user u less refl);
          holds = λ i. back.3 i ∙ sym (n.holds i);
        },
      );
  kept = λ k b is.
      let at = branch_place outline k b is in
      elim (user-at users k) [
        | inl found ↦ inr (found.0, found.1, λ i. at.holds i ∙ sym (user-range outline users owners k at.place us at.found found.0 found.1 found.2 i))
        | inr none ↦ inl (old k at.place at.found none ∙ is)
      ];
}
  where
    has : ℕ → Place → NodeKind → Type 0
    has = IsTightKind users totals

    leaf : (k : ℕ) (p : Place) (kind : NodeKind) → slice_get outline k ≡ Some p → has k p kind → is_leaf_kind p.kind ≡ true → kind ≡ p.kind
    leaf k p kind got is is_leaf = is.other (λ u less at. false≢true (sym (knows-of outline users owners k p us got u less at).0 ∙ is_leaf))

    user_branch : (k : ℕ) (b : SharedBranch) → (pair : IsPaired outline has k b) → (u : ℕ) → u < length users → slice_index users u ≡ k → IsUserBranch owners totals u b
    user_branch k b pair u less at = record {
      limit = branch-limit b.limit (Some (slice_index totals u)) (pair.pair.user u less at);
      holds = λ i. pair.holds i ∙ sym (user-range outline users owners k pair.place us pair.found u less at i);
    }

    old : (k : ℕ) (p : Place) → slice_get outline k ≡ Some p → ((u : ℕ) → u < length users → slice_index users u ≡ k → ⊥) → (limits tree).branch k ≡ (limits outline).branch k
    old k p got none = same-branch outline tree has k p alike got ((alike.each k p got).2.other none)

pub has-users : (outline : List Place) (users owners : List ℕ) → HasNestedBranches (limits outline) → AreUsers outline users owners → HasUsers (limits outline) (length users) owners
has-users outline users owners tree us = record {
  each = us.each;
  few = us.few;
  nested = λ k u b is. elim (cases_lt u (length users)) [
    | inr past ↦ inr (inr (λ i held own. absurd (omega (arith, past, leaf_owner owners u i own, us.few i (leaf_inside owners u i own)))))
    | inl less ↦
        let n = us.node u less in
        let kind = branch-kind n.place.kind n.branch in
        moved b (own_branch kind.0 n.place) u n.holds (tree.nested k (slice_index users u) b (own_branch kind.0 n.place) is (is-own outline (slice_index users u) n.place kind.0 n.found kind.1))
  ];
}
  where
    moved : (b c : SharedBranch) (u : ℕ) → ((i : ℕ) → leaves_of owners u i ≡ c.holds i) → IsNested b.holds c.holds → IsNested b.holds (leaves_of owners u)
    moved b c u same (inl inside) = inl (λ i held. same i ∙ inside i held)
    moved b c u same (inr (inl large)) = inr (inl (λ i own. large i (sym (same i) ∙ own)))
    moved b c u same (inr (inr apart)) = inr (inr (λ i held own. apart i held (sym (same i) ∙ own)))

pub have-heads : (outline : List Place) (users owners : List ℕ) → AreUsers outline users owners → HaveHeads (length users) owners
have-heads outline users owners us u less =
    let n = us.node u less in
    let p = n.place in
    let own : IsTrue (leaves_of owners u p.first) = n.holds p.first ∙ leaf_range-inside p.first p.leaves p.first (omega arith) (omega (arith, n.some)) in (
      p.first,
      own,
      λ j before mine. let at = in_range p.first p.leaves j (sym (n.holds j) ∙ subst (λ (w : ℕ). IsTrue (leaves_of owners w j)) (leaf_owner owners u p.first own) mine) in absurd (omega (arith, before, at.0)),
    )
