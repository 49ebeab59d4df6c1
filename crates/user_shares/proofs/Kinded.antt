-- Leaves of one user, and kinds node by node.
use Rattle.std.proofs.Common.{◌≡◌, ℕ, zero, suc, ◌+◌, ◌<◌, ◌≤◌, Bool, true, false, List, [], ◌∷◌, ◌++◌, length, refl, sym, ap, ◌∙◌, subst, length-append, arith, ◌⊎◌, inl, inr, Option, Some}
use Rattle.std.specs.Prelude.{IsTrue, slice_get, slice_index}
use Rattle.std.proofs.lemmas.Bool.{cases_eq, cases_lt}
use Rattle.limit_tree.specs.declared.place.NodeKind.{NodeKind}
use Rattle.limit_tree.specs.declared.place.NodeKind.TheVariants.{Branch, Leaf}
use Rattle.limit_tree.specs.declared.place.Place.{Place}
use Rattle.limit_tree.specs.Flat.{IsShaped}
use Rattle.limit_tree.specs.Outline.{is_leaf_kind, leaf_range}
use Rattle.limit_tree.proofs.Hops.{same-node}
use Rattle.limit_tree.proofs.Nested.{in_range}
use Rattle.limit_tree.proofs.RangeSums.{leaf_range-inside}
use Rattle.grant_certificate.specs.Users.{leaves_of}
use Rattle.grant_certificate.proofs.UserSums.{own_leaf, leaf_owner}
use Rattle.user_shares.specs.Stages.{IsHead}
use Rattle.user_shares.specs.Kinds.{HaveRanges, IsOwned, AreKinds, AreKindsBelow, KnowsUsers}
use Rattle.user_shares.specs.Nodes.{AreUsers}

get-more : {X : Type 0} (xs : List X) (y : X) (k : ℕ) (x : X) → slice_get (xs ++ y ∷ []) k ≡ Some x → (slice_get xs k ≡ Some x) ⊎ ((k ≡ length xs) × (y ≡ x))
get-more [] y zero x e = let same : y ≡ x = cc in inr (refl, same)
get-more [] y (suc k) x e = absurd (cc)
get-more (z ∷ xs) y zero x e = inl e
get-more (z ∷ xs) y (suc k) x e = elim (get-more xs y k x e) [ inl old ↦ inl old | inr last ↦ inr (ap suc last.0, last.1) ]

-- the kind of one node more
pub kinds-more : (outline : List Place) (has : ℕ → Place → NodeKind → Type 0) (n : ℕ) (kinds new : List NodeKind) (p : Place) (kind : NodeKind) → AreKindsBelow outline has n kinds → slice_get outline n ≡ Some p → has n p kind → new ≡ kinds ++ kind ∷ [] → AreKindsBelow outline has (n + 1) new
kinds-more outline has n kinds new p kind before got this is = record {
  nodes = omega (arith, before.nodes, ap length is, length-append kinds (kind ∷ []));
  each = λ k q other got_q at. elim (get-more kinds kind k other (ap (λ (ks : List NodeKind). slice_get ks k) (sym is) ∙ at)) [
    | inl old ↦ before.each k q other got_q old
    | inr last ↦
        let here : k ≡ n = last.0 ∙ before.nodes in
        let same : p ≡ q = same-node outline n p q got (ap (λ (m : ℕ). slice_get outline m) (sym here) ∙ got_q) in
        subst (λ (x : ℕ). has x q other) (sym here) (subst (λ (x : Place). has n x other) same (subst (λ (x : NodeKind). has n p x) last.1 this))
  ];
}

pub kinds-all : (outline : List Place) (has : ℕ → Place → NodeKind → Type 0) (n : ℕ) (kinds : List NodeKind) → n ≡ length outline → AreKindsBelow outline has n kinds → AreKinds outline has kinds
kinds-all outline has n kinds all below = record { nodes = below.nodes ∙ all; each = below.each }

pub kinds-none : (outline : List Place) (has : ℕ → Place → NodeKind → Type 0) → AreKindsBelow outline has 0 []
kinds-none outline has = record { nodes = refl; each = λ k p kind got at. absurd (cc) }

pub ranges-of : (outline : List Place) (users owners : List ℕ) → AreUsers outline users owners → HaveRanges owners
ranges-of outline users owners us i low =
    let n = us.node (slice_index owners i) (us.few i low) in
    (n.place.first, n.place.leaves, n.holds)

pub knows-of : (outline : List Place) (users owners : List ℕ) (node : ℕ) (p : Place) → AreUsers outline users owners → slice_get outline node ≡ Some p → KnowsUsers users owners node p
knows-of outline users owners node p us got u less is =
    let n = us.node u less in
    let q = n.place in
    let same : q ≡ p = same-node outline node q p (ap (λ (m : ℕ). slice_get outline m) (sym is) ∙ n.found) got in
    let first : IsTrue (leaf_range q.first q.leaves q.first) = leaf_range-inside q.first q.leaves q.first (omega arith) (omega (arith, n.some)) in
    subst (λ (x : Place). (is_leaf_kind x.kind ≡ false) × (1 ≤ x.leaves) × (slice_index owners x.first ≡ u)) same
    (n.branch, n.some, leaf_owner owners u q.first (n.holds q.first ∙ first))

-- a node whose first and last leaf are of one user
pub owned-ends : (owners : List ℕ) (p : Place) → HaveRanges owners → p.first + p.leaves ≤ length owners → 1 ≤ p.leaves → (last : ℕ) → last + 1 ≡ p.first + p.leaves → slice_index owners p.first ≡ slice_index owners last → IsOwned owners p
owned-ends owners p ranges inside some last end same =
    let u = slice_index owners p.first in
    let range = ranges p.first (omega arith) in
    let a = range.0 in
    let b = range.1 in
    let low = in_range a b p.first (sym (range.2 p.first) ∙ own_leaf owners p.first (omega arith)) in
    let own : IsTrue (leaves_of owners u last) = subst (λ (v : ℕ). IsTrue (leaves_of owners v last)) (sym same) (own_leaf owners last (omega arith)) in
    let high = in_range a b last (sym (range.2 last) ∙ own) in
    record {
      some = some;
      own = λ i held. let at = in_range p.first p.leaves i held in range.2 i ∙ leaf_range-inside a b i (omega (arith, low.0, at.0)) (omega (arith, high.1, at.1, end));
    }

pub owned-last : (owners : List ℕ) (p : Place) → IsOwned owners p → (last : ℕ) → last + 1 ≡ p.first + p.leaves → slice_index owners p.first ≡ slice_index owners last
owned-last owners p owned last end =
    sym (leaf_owner owners (slice_index owners p.first) last (owned.own last (leaf_range-inside p.first p.leaves last (omega (arith, owned.some)) (omega arith))))

-- no earlier leaf is of the user, if the last earlier one is not
pub head-from : (owners : List ℕ) (i before : ℕ) → HaveRanges owners → i < length owners → before + 1 ≡ i → (slice_index owners before ≡ slice_index owners i → ⊥) → IsHead owners i
head-from owners i before ranges low next other j less own =
    let u = slice_index owners i in
    let range = ranges i low in
    let a = range.0 in
    let b = range.1 in
    let at_j = in_range a b j (sym (range.2 j) ∙ own) in
    let at_i = in_range a b i (sym (range.2 i) ∙ own_leaf owners i low) in
    other (leaf_owner owners u before (range.2 before ∙ leaf_range-inside a b before (omega (arith, at_j.0)) (omega (arith, at_i.1))))

pub head-to : (owners : List ℕ) (i before : ℕ) → i < length owners → before + 1 ≡ i → IsHead owners i → slice_index owners before ≡ slice_index owners i → ⊥
head-to owners i before low next head same =
    head before (omega arith) (subst (λ (v : ℕ). IsTrue (leaves_of owners v before)) same (own_leaf owners before (omega arith)))

-- a leaf has one leaf
pub leaf-one : (outline : List Place) (k : ℕ) (p : Place) → IsShaped outline → slice_get outline k ≡ Some p → is_leaf_kind p.kind ≡ true → p.leaves ≡ 1
leaf-one outline k p shaped got is = go p.kind refl is
  where
    go : (kind : NodeKind) → p.kind ≡ kind → is_leaf_kind kind ≡ true → p.leaves ≡ 1
    go (Branch limit) same leaf = absurd (cc)
    go (Leaf want floor) same leaf = ((shaped k p got).leaf want floor same).1
