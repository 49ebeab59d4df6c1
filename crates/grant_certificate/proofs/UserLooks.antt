-- One node more for a look at bottlenecks within users and among them.
use Rattle.std.proofs.Common.{◌≡◌, ℕ, ◌+◌, ◌<◌, ◌≤◌, List, [], ◌∷◌, ◌++◌, length, refl, sym, ap, ◌∙◌, subst, arith, ◌⊎◌, inl, inr, Option, Some, None}
use Rattle.std.specs.Prelude.{slice_get}
use Rattle.std.specs.Option.{option_and_then}
use Rattle.std.proofs.lemmas.Bool.{cases_eq, cases_lt}
use Rattle.std.proofs.lemmas.Option.{slice_get_within}
use Rattle.limit_tree.specs.Outline.{branch_of, limits, IsFullPlace}
use Rattle.limit_tree.specs.Sharing.{Branch, HasNestedBranches, IsBranch}
use Rattle.limit_tree.specs.declared.place.Place.{Place}
use Rattle.limit_tree.proofs.Looks.{slice_get-last, slice_get-other}
use Rattle.limit_tree.proofs.Nested.{range_of}
use Rattle.limit_tree.proofs.RangeSums.{leaf_range-inside}
use Rattle.grant_certificate.specs.Users.{HasUsers, HasUserNeck}
use Rattle.grant_certificate.specs.UserNecks.{IsNeckWithin, IsNeckIn}
use Rattle.grant_certificate.proofs.Necks.{neck-here, neck-there}

-- what holds a leaf back has it in its range
pub neck-range : (number first leaves : ℕ) (owners g floors : List ℕ) (c : List (Option ℕ)) (i : ℕ) → IsNeckWithin number first leaves owners g floors c i → (first ≤ i) × (i < first + leaves)
neck-range number first leaves owners g floors c i h = elim h.back [
  | inl inner ↦ (inner.low, inner.high)
  | inr outer ↦ outer.all i h.inside refl
]

-- a leaf with a bottleneck keeps it
pub neck-seen : (seen : List Place) (p : Place) (owners g floors : List ℕ) (c : List (Option ℕ)) (i : ℕ) → IsNeckIn seen owners g floors c i → IsNeckIn (seen ++ p ∷ []) owners g floors c i
neck-seen seen p owners g floors c i h =
    let low : h.node < length seen = slice_get_within seen h.node h.place h.found in
    record {
      node = h.node;
      place = h.place;
      found = slice_get-other seen p h.node (λ e. absurd (omega (arith, e, low))) ∙ h.found;
      bounded = h.bounded;
      full = h.full;
      neck = h.neck;
    }

-- a leaf that the node seen last holds back
pub neck-last : (seen : List Place) (p : Place) (n : ℕ) (owners g floors : List ℕ) (c : List (Option ℕ)) (i : ℕ) → length seen ≡ n → p.first + p.leaves ≤ length g → IsFullPlace p g → IsNeckWithin n p.first p.leaves owners g floors c i → IsNeckIn (seen ++ p ∷ []) owners g floors c i
neck-last seen p n owners g floors c i count bounded full neck = record {
  node = n;
  place = p;
  found = slice_get-last seen p n count;
  bounded = bounded;
  full = full;
  neck = neck;
}

-- a bottleneck among the nodes seen and one more is one of those seen, or that one
pub neck-either : (seen : List Place) (p : Place) (n : ℕ) (owners g floors : List ℕ) (c : List (Option ℕ)) (i : ℕ) → length seen ≡ n → IsNeckIn (seen ++ p ∷ []) owners g floors c i → IsNeckIn seen owners g floors c i ⊎ (IsFullPlace p g × IsNeckWithin n p.first p.leaves owners g floors c i)
neck-either seen p n owners g floors c i count h = elim (cases_eq (length seen) h.node) [
  | inr ne ↦ inl (record {
    node = h.node;
    place = h.place;
    found = sym (slice_get-other seen p h.node ne) ∙ h.found;
    bounded = h.bounded;
    full = h.full;
    neck = h.neck;
  })
  | inl e ↦
      let same : p ≡ h.place = some_is (sym (slice_get-last seen p h.node e) ∙ h.found) in
      let number : h.node ≡ n = sym e ∙ count in
      inr (
        subst (λ (q : Place). IsFullPlace q g) (sym same) h.full,
        subst (λ (k : ℕ). IsNeckWithin k p.first p.leaves owners g floors c i) number (subst (λ (q : Place). IsNeckWithin h.node q.first q.leaves owners g floors c i) (sym same) h.neck),
      )
]
  where
    some_is : {q : Place} → Some p ≡ Some q → p ≡ q
    some_is e = cc

-- no leaf has a bottleneck where no node was seen
pub neck-nothing : (owners g floors : List ℕ) (c : List (Option ℕ)) (i : ℕ) → IsNeckIn [] owners g floors c i → ⊥
neck-nothing owners g floors c i h = let low : h.node < 0 = slice_get_within [] h.node h.place h.found in absurd (omega (arith, low))

-- the bottlenecks of a tree are those among its nodes
pub neck-to : (ps : List Place) (owners g floors : List ℕ) (c : List (Option ℕ)) (i : ℕ) → floors ≡ (limits ps).floors → length owners ≡ length g → IsNeckIn ps owners g floors c i → HasUserNeck (limits ps) owners g c i
neck-to ps owners g floors c i same each h = neck-here ps owners g floors c i h.node h.place same h.neck.named h.found h.full h.neck.inside (omega (arith, h.bounded, each)) h.neck.back

-- a range of a branch, which has a leaf, ends within the leaves
range_bounded : (ps : List Place) (k i n : ℕ) (p : Place) (g : List ℕ) → HasNestedBranches (limits ps) → length (limits ps).wants ≡ n → slice_get ps k ≡ Some p → IsFullPlace p g → (p.first ≤ i) × (i < p.first + p.leaves) → p.first + p.leaves ≤ n
range_bounded ps k i n p g tree count found full here = elim (cases_lt n (p.first + p.leaves)) [
  | inr past ↦ omega (arith, past)
  | inl less ↦ elim (cases_lt n p.first) [
    | inl low ↦ let l : i < length (limits ps).wants = inside i here.0 here.1 in absurd (omega (arith, l, low, here.0, count))
    | inr high ↦ let l : n < length (limits ps).wants = inside n (omega (arith, high)) less in absurd (omega (arith, l, count))
  ]
]
  where
    b : Branch
    b = full.0

    is : IsBranch (limits ps) k b
    is = ap (option_and_then (λ (x : Place). branch_of x.kind x.first x.leaves)) found ∙ full.1

    inside : (j : ℕ) → p.first ≤ j → j < p.first + p.leaves → j < length (limits ps).wants
    inside j first last = tree.leaves k j b is ((range_of p.kind p.first p.leaves b full.1).0 j ∙ leaf_range-inside p.first p.leaves j first last)

pub neck-from : (ps : List Place) (users : ℕ) (owners g floors : List ℕ) (c : List (Option ℕ)) (i : ℕ) → HasNestedBranches (limits ps) → HasUsers (limits ps) users owners → floors ≡ (limits ps).floors → length (limits ps).wants ≡ length g → i < length owners → HasUserNeck (limits ps) owners g c i → IsNeckIn ps owners g floors c i
neck-from ps users owners g floors c i tree has same count low neck =
    let at = neck-there ps users owners g floors c i tree has same low neck in
    let held : IsNeckWithin at.0 at.1.first at.1.leaves owners g floors c i = record { inside = low; named = at.2; back = at.5 } in
    record {
      node = at.0;
      place = at.1;
      found = at.3;
      bounded = range_bounded ps at.0 i (length g) at.1 g tree count at.3 at.4 (neck-range at.0 at.1.first at.1.leaves owners g floors c i held);
      full = at.4;
      neck = held;
    }
