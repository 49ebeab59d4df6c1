-- The users of leaves, branch by branch.
use Rattle.std.proofs.Common.{◌≡◌, ℕ, zero, suc, ◌+◌, ◌<◌, ◌≤◌, Bool, true, false, List, [], ◌∷◌, ◌++◌, length, drop, refl, sym, ap, ◌∙◌, subst, length-append, arith, ◌⊎◌, inl, inr, Some}
use Rattle.std.specs.Prelude.{IsTrue, slice_get, slice_index}
use Rattle.std.proofs.lemmas.Bool.{cases_eq, cases_lt}
use Rattle.std.proofs.lemmas.List.{drop_more, get_or_push}
use Rattle.limit_tree.specs.declared.place.Place.{Place}
use Rattle.limit_tree.specs.Outline.{leaf_range, limits}
use Rattle.limit_tree.proofs.Hops.{same-node}
use Rattle.limit_tree.proofs.Nested.{in_range}
use Rattle.limit_tree.proofs.RangeSums.{leaf_range-inside}
use Rattle.grant_certificate.specs.Users.{leaves_of}
use Rattle.grant_certificate.proofs.UserSums.{own_leaf, leaf_inside, leaf_owner}
use Rattle.grant_certificate.proofs.UserTotals.{bool_same}
use Rattle.user_shares.specs.InRow.{AreInRow, IsGrown, IsNext, StandFrom}
use Rattle.user_shares.specs.Nodes.{AreUsers, IsUserNode}

index-front : (xs : List ℕ) (y i : ℕ) → i < length xs → slice_index (xs ++ y ∷ []) i ≡ slice_index xs i
index-front [] y i less = absurd (omega arith)
index-front (x ∷ xs) y zero less = refl
index-front (x ∷ xs) y (suc i) less = index-front xs y i (omega arith)

pub grown-none : (old : List ℕ) (user : ℕ) → IsGrown old user 0 old
grown-none old user = record {
  long = omega arith;
  before = λ i l. refl;
  own = λ i low high. absurd (omega (arith, low, high));
}

pub grown-more : (old new more : List ℕ) (user leaves : ℕ) → IsGrown old user leaves new → more ≡ new ++ user ∷ [] → IsGrown old user (leaves + 1) more
grown-more old new more user leaves grown is =
    let long : length more ≡ length new + 1 = omega (arith, ap (λ (xs : List ℕ). length xs) is, length-append new (user ∷ [])) in
    let at : (i : ℕ) → slice_index more i ≡ slice_index (new ++ user ∷ []) i = λ i. ap (λ (xs : List ℕ). slice_index xs i) is in
    record {
      long = omega (arith, long, grown.long);
      before = λ i l. at i ∙ (index-front new user i (omega (arith, l, grown.long)) ∙ grown.before i l);
      own = λ i low high. elim (cases_lt i (length new)) [
        | inl l ↦ at i ∙ (index-front new user i l ∙ grown.own i low l)
        | inr nl ↦ at i ∙ get_or_push new user 0 i (omega (arith, nl, high, long))
      ];
    }

-- a user who has no new leaf keeps those that it had
pub node-kept : (outline : List Place) (old new : List ℕ) (user leaves u k : ℕ) → IsGrown old user leaves new → (u ≡ user → ⊥) → IsUserNode outline old u k → IsUserNode outline new u k
node-kept outline old new user leaves u k grown other n = record {
  place = n.place;
  found = n.found;
  branch = n.branch;
  some = n.some;
  holds = λ i. bool_same _ _ (forth i) (back i);
}
  where
    forth : (i : ℕ) → IsTrue (leaves_of new u i) → IsTrue (leaf_range n.place.first n.place.leaves i)
    forth i own =
        let is : slice_index new i ≡ u = leaf_owner new u i own in
        elim (cases_lt i (length old)) [
          | inl l ↦ sym (n.holds i) ∙ subst (λ (v : ℕ). IsTrue (leaves_of old v i)) (sym (grown.before i l) ∙ is) (own_leaf old i l)
          | inr nl ↦ absurd (other (sym is ∙ grown.own i (omega (arith, nl)) (leaf_inside new u i own)))
        ]

    back : (i : ℕ) → IsTrue (leaf_range n.place.first n.place.leaves i) → IsTrue (leaves_of new u i)
    back i held =
        let own : IsTrue (leaves_of old u i) = n.holds i ∙ held in
        let l = leaf_inside old u i own in
        subst (λ (v : ℕ). IsTrue (leaves_of new v i)) (grown.before i l ∙ leaf_owner old u i own) (own_leaf new i (omega (arith, l, grown.long)))

-- the new user has the new leaves
pub node-new : (outline : List Place) (old new : List ℕ) (user leaves k : ℕ) → IsGrown old user leaves new → ((i : ℕ) → i < length old → slice_index old i < user) → IsNext outline k (length old) leaves → IsUserNode outline new user k
node-new outline old new user leaves k grown few next = record {
  place = next.place;
  found = next.found;
  branch = next.branch;
  some = next.some;
  holds = λ i. bool_same _ _ (forth i) (back i);
}
  where
    forth : (i : ℕ) → IsTrue (leaves_of new user i) → IsTrue (leaf_range next.place.first next.place.leaves i)
    forth i own =
        let is : slice_index new i ≡ user = leaf_owner new user i own in
        elim (cases_lt i (length old)) [
          | inl l ↦ absurd (omega (arith, few i l, grown.before i l, is))
          | inr nl ↦ leaf_range-inside next.place.first next.place.leaves i (omega (arith, nl, next.at)) (omega (arith, leaf_inside new user i own, grown.long, next.at, next.count))
        ]

    back : (i : ℕ) → IsTrue (leaf_range next.place.first next.place.leaves i) → IsTrue (leaves_of new user i)
    back i held =
        let at = in_range next.place.first next.place.leaves i held in
        let high : i < length new = omega (arith, at.1, grown.long, next.at, next.count) in
        subst (λ (v : ℕ). IsTrue (leaves_of new v i)) (grown.own i (omega (arith, at.0, next.at)) high) (own_leaf new i high)

pub same-leaves : (outline : List Place) (k first a b : ℕ) → IsNext outline k first a → IsNext outline k first b → a ≡ b
same-leaves outline k first a b x y =
    sym x.count ∙ (ap (λ (p : Place). p.leaves) (same-node outline k x.place y.place x.found y.found) ∙ y.count)

-- the branches from one on, if they stand in a row, and those behind it
pub stand-next : (outline : List Place) (users : List ℕ) (n first : ℕ) → n < length users → StandFrom outline first (drop n users) → (leaves : ℕ) × IsNext outline (slice_index users n) first leaves × StandFrom outline (first + leaves) (drop (n + 1) users)
stand-next outline users n first less row = subst (λ (ks : List ℕ). StandFrom outline first ks) (drop_more users n 0 less) row
