-- A full branch whose range holds a leaf back is its bottleneck.
use Rattle.std.proofs.Common.{◌≡◌, ℕ, ◌+◌, ◌<◌, ◌≤◌, true, false, List, length, refl, sym, ap, ◌∙◌, subst, arith, ◌⊎◌, inl, inr, Option, Some}
use Rattle.std.specs.Prelude.{IsTrue, slice_get, slice_index}
use Rattle.std.specs.Option.{option_and_then}
use Rattle.std.proofs.lemmas.Bool.{cases_Bool, cases_eq}
use Rattle.limit_tree.specs.Sharing.{Branch, HasNestedBranches, IsFull, IsInside, IsNotTooGreat}
use Rattle.limit_tree.specs.Outline.{branch_of, leaf_range, limits, IsFullPlace}
use Rattle.limit_tree.specs.declared.place.Place.{Place}
use Rattle.limit_tree.proofs.Sums.{sum_in-none}
use Rattle.limit_tree.proofs.Nested.{range_of, in_range, IsPlaceOf}
use Rattle.limit_tree.proofs.RangeSums.{leaf_range-inside}
use Rattle.grant_certificate.specs.Ranges.{IsNear}
use Rattle.grant_certificate.specs.UserRanges.{IsInnerRange, IsOuterRange}
use Rattle.grant_certificate.specs.Users.{leaves_of, total_of, HasUsers, HasUserNeck, IsInnerNeck, IsOuterNeck, IsNotTooRich}
use Rattle.limit_tree.proofs.Nested.{branch_place}
use Rattle.grant_certificate.proofs.UserSums.{own_leaf, leaf_inside, leaf_owner, any_below, any-from, any-found}

near_is : (ps : List Place) (g floors : List ℕ) (i j : ℕ) → floors ≡ (limits ps).floors → IsNear g floors (slice_index g i) j → IsNotTooGreat (limits ps) g i j
near_is ps g floors i j same (inl small) = inl small
near_is ps g floors i j same (inr floored) = inr (floored ∙ ap (λ (fs : List ℕ). slice_index fs j) same)

pub neck-here : (ps : List Place) (owners g floors : List ℕ) (c : List (Option ℕ)) (i k : ℕ) (p : Place) → floors ≡ (limits ps).floors → slice_get c i ≡ Some (Some k) → slice_get ps k ≡ Some p → IsFullPlace p g → i < length owners → p.first + p.leaves ≤ length owners → IsInnerRange owners g floors p.first p.leaves i ⊎ IsOuterRange owners g floors p.first p.leaves i → HasUserNeck (limits ps) owners g c i
neck-here ps owners g floors c i k p same named got full low fits back = (
  k,
  b,
  named,
  ap (option_and_then (λ (x : Place). branch_of x.kind x.first x.leaves)) got ∙ full.1,
  elim back [
    | inl inner ↦ inl (record {
      full = full.2;
      holds = range i ∙ leaf_range-inside p.first p.leaves i inner.low inner.high;
      own = λ j held. let at = in_range p.first p.leaves j (sym (range j) ∙ held) in owned j (omega (arith, at.1, fits)) (inner.own j at.0 at.1);
      greatest = λ j held. near_is ps g floors i j same (inner.greatest j (sym (range j) ∙ held));
    })
    | inr outer ↦ inr (record {
      full = full.2;
      all = λ j own. let at = outer.all j (leaf_inside owners (slice_index owners i) j own) (leaf_owner owners (slice_index owners i) j own) in range j ∙ leaf_range-inside p.first p.leaves j at.0 at.1;
      greatest = λ j own. near_is ps g floors i j same (outer.greatest j (leaf_inside owners (slice_index owners i) j own) (leaf_owner owners (slice_index owners i) j own));
      richest = λ v inside. richest outer v inside;
    })
  ],
)
  where
    b : Branch
    b = full.0

    range : (j : ℕ) → b.holds j ≡ leaf_range p.first p.leaves j
    range = (range_of p.kind p.first p.leaves full.0 full.1).0

    owned : (j : ℕ) → j < length owners → slice_index owners j ≡ slice_index owners i → IsTrue (leaves_of owners (slice_index owners i) j)
    owned j inside e = subst (λ (v : ℕ). IsTrue (leaves_of owners v j)) e (own_leaf owners j inside)

    total_floor : (v : ℕ) → total_of owners floors v ≡ total_of owners (limits ps).floors v
    total_floor v = ap (λ (fs : List ℕ). total_of owners fs v) same

    richest : IsOuterRange owners g floors p.first p.leaves i → (v : ℕ) → IsInside (leaves_of owners v) b.holds → IsNotTooRich (limits ps) owners g (slice_index owners i) v
    richest outer v inside = elim (cases_Bool (any_below (length owners) (leaves_of owners v))) [
      | inl some ↦
          let leaf = any-found (length owners) (leaves_of owners v) some in
          let at = in_range p.first p.leaves leaf.0 (sym (range leaf.0) ∙ inside leaf.0 leaf.2) in
          let owner : slice_index owners leaf.0 ≡ v = leaf_owner owners v leaf.0 leaf.2 in
          subst (λ (w : ℕ). IsNotTooRich (limits ps) owners g (slice_index owners i) w) owner (rich leaf.0 (outer.richest leaf.0 at.0 at.1))
      | inr not_any ↦
          let zero : total_of owners g v ≡ 0 = sum_in-none (length owners) (leaves_of owners v) (λ j. slice_index g j) (λ j l. elim (cases_Bool (leaves_of owners v j)) [
            | inr out ↦ out
            | inl held ↦ absurd (clash (sym not_any ∙ any-from (length owners) (leaves_of owners v) j l held))
          ]) in
          inl (omega (arith, zero))
    ]
      where
        clash : false ≡ true → ⊥
        clash e = cc

        rich : (j : ℕ) → (total_of owners g (slice_index owners j) < total_of owners g (slice_index owners i) + 2) ⊎ (total_of owners g (slice_index owners j) ≡ total_of owners floors (slice_index owners j)) → IsNotTooRich (limits ps) owners g (slice_index owners i) (slice_index owners j)
        rich j (inl small) = inl small
        rich j (inr floored) = inr (floored ∙ total_floor (slice_index owners j))

near_back : (ps : List Place) (g floors : List ℕ) (i j : ℕ) → floors ≡ (limits ps).floors → IsNotTooGreat (limits ps) g i j → IsNear g floors (slice_index g i) j
near_back ps g floors i j same (inl small) = inl small
near_back ps g floors i j same (inr floored) = inr (floored ∙ sym (ap (λ (fs : List ℕ). slice_index fs j) same))

-- a bottleneck is a full branch whose range holds the leaf back
pub neck-there : (ps : List Place) (users : ℕ) (owners g floors : List ℕ) (c : List (Option ℕ)) (i : ℕ) → HasNestedBranches (limits ps) → HasUsers (limits ps) users owners → floors ≡ (limits ps).floors → i < length owners → HasUserNeck (limits ps) owners g c i → (k : ℕ) × (p : Place) × (slice_get c i ≡ Some (Some k)) × (slice_get ps k ≡ Some p) × IsFullPlace p g × (IsInnerRange owners g floors p.first p.leaves i ⊎ IsOuterRange owners g floors p.first p.leaves i)
neck-there ps users owners g floors c i tree has same low neck = (neck.0, p, neck.2, at.found, full, ranges neck.4)
  where
    b : Branch
    b = neck.1

    at : IsPlaceOf ps neck.0 b
    at = branch_place ps neck.0 b neck.3

    p : Place
    p = at.place

    here : branch_of p.kind p.first p.leaves ≡ Some b
    here = sym (ap (option_and_then (λ (x : Place). branch_of x.kind x.first x.leaves)) at.found) ∙ neck.3

    full_of : IsInnerNeck (limits ps) owners b g i ⊎ IsOuterNeck (limits ps) owners b g i → IsFull b g
    full_of (inl inner) = inner.full
    full_of (inr outer) = outer.full

    full : IsFullPlace p g
    full = (b, here, full_of neck.4)

    u : ℕ
    u = slice_index owners i

    own : (j : ℕ) → j < length owners → slice_index owners j ≡ u → IsTrue (leaves_of owners u j)
    own j l e = subst (λ (v : ℕ). IsTrue (leaves_of owners v j)) e (own_leaf owners j l)

    in_b : (j : ℕ) → p.first ≤ j → j < p.first + p.leaves → IsTrue (b.holds j)
    in_b j first last = at.holds j ∙ leaf_range-inside p.first p.leaves j first last

    ranges : IsInnerNeck (limits ps) owners b g i ⊎ IsOuterNeck (limits ps) owners b g i → IsInnerRange owners g floors p.first p.leaves i ⊎ IsOuterRange owners g floors p.first p.leaves i
    ranges (inl inner) =
        let held = in_range p.first p.leaves i (sym (at.holds i) ∙ inner.holds) in
        inl (record {
          low = held.0;
          high = held.1;
          own = λ j first last. leaf_owner owners u j (inner.own j (in_b j first last));
          greatest = λ j ranged. near_back ps g floors i j same (inner.greatest j (at.holds j ∙ ranged));
        })
    ranges (inr outer) = inr (record {
      all = λ j l e. in_range p.first p.leaves j (sym (at.holds j) ∙ outer.all j (own j l e));
      greatest = λ j l e. near_back ps g floors i j same (outer.greatest j (own j l e));
      richest = λ j first last. richest j first last;
    })
      where
        inside : (j : ℕ) → p.first ≤ j → j < p.first + p.leaves → j < length owners
        inside j first last = omega (arith, has.each, tree.leaves neck.0 j b neck.3 (in_b j first last))

        told : (j : ℕ) → IsNotTooRich (limits ps) owners g u (slice_index owners j) → (total_of owners g (slice_index owners j) < total_of owners g u + 2) ⊎ (total_of owners g (slice_index owners j) ≡ total_of owners floors (slice_index owners j))
        told j (inl small) = inl small
        told j (inr floored) = inr (floored ∙ sym (ap (λ (fs : List ℕ). total_of owners fs (slice_index owners j)) same))

        richest : (j : ℕ) → p.first ≤ j → j < p.first + p.leaves → (total_of owners g (slice_index owners j) < total_of owners g u + 2) ⊎ (total_of owners g (slice_index owners j) ≡ total_of owners floors (slice_index owners j))
        richest j first last = elim (cases_eq (slice_index owners j) u) [
          | inl e ↦ inl (let same_total : total_of owners g (slice_index owners j) ≡ total_of owners g u = ap (λ (v : ℕ). total_of owners g v) e in omega (arith, same_total))
          | inr ne ↦
              let v = slice_index owners j in
              let mine = own_leaf owners j (inside j first last) in
              elim (has.nested neck.0 v b neck.3) [
                | inl small ↦ absurd (ne (sym (leaf_owner owners v i (small i (outer.all i (own i low refl))))))
                | inr (inl large) ↦ told j (outer.richest v large)
                | inr (inr apart) ↦ absurd (apart j (in_b j first last) mine)
              ]
        ]

pub same-entry : (c : List (Option ℕ)) (i k n : ℕ) → slice_get c i ≡ Some (Some k) → slice_get c i ≡ Some (Some n) → k ≡ n
same-entry c i k n one two = go (sym one ∙ two)
  where
    go : Some (Some k) ≡ Some (Some n) → k ≡ n
    go e = cc
