-- If only the branches inside users have limits, backed grants give each user the most that it can have.
use Rattle.std.proofs.Common.{◌≡◌, ℕ, ◌+◌, ◌<◌, ◌≤◌, Bool, true, false, List, length, refl, sym, ap, subst, ◌∙◌, arith, inl, inr, Option, Some}
use Rattle.std.specs.Prelude.{if◌then◌else◌, IsTrue, slice_get, slice_index}
use Rattle.std.proofs.lemmas.Bool.{cases_Bool, false≢true}
use Rattle.limit_tree.specs.Sharing.{LeafSet, Branch, LimitTree, HasNestedBranches, IsBranch, IsInside, IsWithin, IsBackedBy, IsUnmet, sum_over}
use Rattle.limit_tree.proofs.Sums.{sum_in, sum_in-same, sum_in-none}
use Rattle.grant_certificate.specs.Users.{leaves_of, total_of, HasUsers}
use Rattle.grant_certificate.specs.TwoStages.{IsWithinSet, IsMost}
use Rattle.grant_certificate.proofs.UserSums.{leaf_owner, any_below, any-from, any-found}
use Rattle.grant_certificate.proofs.UserTotals.{FullWithin, IsSatisfied}
use Rattle.user_shares.specs.Stages.{AreSame, IsInnerTree, AreTotals, AreMost}
use Rattle.user_shares.proofs.Sets.{set-most}

pub same-sum : (a b : Branch) (h : List ℕ) → AreSame a b → sum_over a.holds h ≡ sum_over b.holds h
same-sum a b h same = sum_in-same (length h) a.holds b.holds (λ i. slice_index h i) same

most-of : (t s : LimitTree) (owners g : List ℕ) (c : List (Option ℕ)) → HasNestedBranches s → length owners ≡ length t.wants → IsInnerTree t owners s → IsWithin s g → IsBackedBy s g c → (u : ℕ) → IsMost t owners u (total_of owners g u)
most-of t s owners g c tree each inner within backed u = record { bound = bound; some = (g, within_set, refl) }
  where
    set : LeafSet
    set = leaves_of owners u

    lengths : length s.wants ≡ length t.wants
    lengths = ap (λ (xs : List ℕ). length xs) inner.wants

    size : length g ≡ length owners
    size = within.wanted.leaves ∙ (lengths ∙ sym each)

    empty : (b : Branch) → any_below (length g) b.holds ≡ false → (i : ℕ) → i < length g → b.holds i ≡ false
    empty b none i l = elim (cases_Bool (b.holds i)) [
      | inr out ↦ out
      | inl held ↦ absurd (false≢true (sym none ∙ any-from (length g) b.holds i l held))
    ]

    within_set : IsWithinSet t set g
    within_set = record {
      leaves = within.wanted.leaves ∙ lengths;
      wants = λ i l. subst (λ (ws : List ℕ). slice_index g i ≤ slice_index ws i) inner.wants (within.wanted.wants i l);
      floors = λ i l. subst (λ (fs : List ℕ). slice_index fs i ≤ slice_index g i) inner.floors (within.floors i l);
      limits = λ k limit b is inside has. elim (cases_Bool (any_below (length g) b.holds)) [
        | inl some ↦
            let at = any-found (length g) b.holds some in
            let kept = inner.kept k u at.0 b is at.2 inside in
            let fits : sum_over kept.0.holds g ≤ limit = within.limits k limit kept.0 kept.1 (kept.2 ∙ has) in
            let sums : sum_over kept.0.holds g ≡ sum_over b.holds g = same-sum kept.0 b g kept.3 in
            omega (arith, fits, sums)
        | inr none ↦
            let zero : sum_over b.holds g ≡ 0 = sum_in-none (length g) b.holds (λ i. slice_index g i) (empty b none) in
            omega (arith, zero)
      ];
    }

    in_s : (h : List ℕ) → IsWithinSet t set h → IsWithinSet s set h
    in_s h in_set = record {
      leaves = in_set.leaves ∙ sym lengths;
      wants = λ i l. subst (λ (ws : List ℕ). slice_index h i ≤ slice_index ws i) (sym inner.wants) (in_set.wants i l);
      floors = λ i l. subst (λ (fs : List ℕ). slice_index fs i ≤ slice_index h i) (sym inner.floors) (in_set.floors i l);
      limits = λ k limit a is inside has.
          let from = inner.from k limit a is has in
          let fits : sum_over from.0.holds h ≤ limit = in_set.limits k limit from.0 from.1 (λ i held. inside i (from.3 i ∙ held)) from.2 in
          let sums : sum_over a.holds h ≡ sum_over from.0.holds h = same-sum a from.0 h from.3 in
          omega (arith, fits, sums);
    }

    satisfied : IsSatisfied s set g (length g)
    satisfied i less held unmet =
        let at = backed.backed i less unmet in
        let a = at.1 in
        let neck = at.4 in
        let from = inner.from at.0 (sum_over a.holds g) a at.3 neck.full in
        let owner : slice_index owners i ≡ from.4 = leaf_owner owners from.4 i (from.5 i (sym (from.3 i) ∙ neck.holds)) in
        let same : from.4 ≡ u = sym owner ∙ leaf_owner owners u i held in
        record {
          number = at.0;
          branch = a;
          member = at.3;
          full = neck.full;
          holds = neck.holds;
          own = λ j in_a. subst (λ (w : ℕ). IsTrue (leaves_of owners w j)) same (from.5 j (sym (from.3 j) ∙ in_a));
        }

    bound : (h : List ℕ) → IsWithinSet t set h → total_of owners h u ≤ total_of owners g u
    bound h in_set =
        subst (λ (n : ℕ). sum_in n set (λ i. slice_index h i) ≤ sum_in n set (λ i. slice_index g i)) size
        (set-most s set g h tree within (in_s h in_set) satisfied)

pub inner-most : (t s : LimitTree) (users : ℕ) (owners g most : List ℕ) (c : List (Option ℕ)) → HasNestedBranches s → HasUsers t users owners → IsInnerTree t owners s → IsWithin s g → IsBackedBy s g c → AreTotals users owners g most → AreMost t users owners most
inner-most t s users owners g most c tree has inner within backed totals = record {
  each = totals.each;
  most = λ u less. subst (λ (m : ℕ). IsMost t owners u m) (sym (totals.sums u less)) (most-of t s owners g c tree has.each inner within backed u);
}
