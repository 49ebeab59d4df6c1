-- If each leaf is a user of its own, best by users means best.
use Rattle.std.proofs.Common.{◌≡◌, ℕ, ◌<◌, Bool, true, false, List, [], ◌∷◌, length, refl, sym, ap, subst, ◌∙◌, arith, ◌↔◌}
use Rattle.std.specs.Prelude.{if◌then◌else◌, IsTrue, slice_index}
use Rattle.limit_tree.specs.Sharing.{LimitTree, IsBest, IsAscending}
use Rattle.grant_certificate.specs.Users.{tabulate, leaves_of, total_of, totals, IsBestByUsers}
use Rattle.grant_certificate.proofs.UserSums.{length-tabulate, index-tabulate, same-tabulate, sum_single, own_leaf, leaf_inside, leaf_owner}

abbrev numbers : ℕ → List ℕ
numbers n = tabulate n (λ i. i)

-- the total of a user with one leaf
one_total : (n : ℕ) (g : List ℕ) (u : ℕ) → u < n → total_of (numbers n) g u ≡ slice_index g u
one_total n g u inside =
    let size : length (numbers n) ≡ n = length-tabulate n (λ i. i) in
    let here : slice_index (numbers n) u ≡ u = index-tabulate n (λ i. i) u inside in
    let own : IsTrue (leaves_of (numbers n) u u) = subst (λ (v : ℕ). IsTrue (leaves_of (numbers n) v u)) here (own_leaf (numbers n) u (omega (arith, size))) in
    sum_single (length (numbers n)) (λ i. if leaves_of (numbers n) u i then slice_index g i else 0) u (omega (arith, size))
    (λ i other. none (leaves_of (numbers n) u i) (slice_index g i) (λ held. other (is_here i held))) ∙
    ap (λ (c : Bool). if c then slice_index g u else 0) own
  where
    none : (c : Bool) (x : ℕ) → (c ≡ true → ⊥) → (if c then x else 0) ≡ 0
    none true x out = absurd (out refl)
    none false x out = refl

    is_here : (i : ℕ) → IsTrue (leaves_of (numbers n) u i) → i ≡ u
    is_here i held =
        let size : length (numbers n) ≡ n = length-tabulate n (λ j. j) in
        let inside : i < length (numbers n) = leaf_inside (numbers n) u i held in
        sym (index-tabulate n (λ j. j) i (omega (arith, size, inside))) ∙ leaf_owner (numbers n) u i held

all_places : (g : List ℕ) → tabulate (length g) (λ i. slice_index g i) ≡ g
all_places [] = refl
all_places (x ∷ g) = ap (λ (xs : List ℕ). x ∷ xs) (all_places g)

-- the totals are the grants
one_totals : (n : ℕ) (g : List ℕ) → length g ≡ n → totals n (numbers n) g ≡ g
one_totals n g size =
    same-tabulate n (total_of (numbers n) g) (λ i. slice_index g i) (λ i l. one_total n g i l) ∙
    (ap (λ (m : ℕ). tabulate m (λ i. slice_index g i)) (sym size) ∙ all_places g)

pub one-leaf-each : (t : LimitTree) (g : List ℕ) → IsBestByUsers t (length t.wants) (tabulate (length t.wants) (λ i. i)) g ↔ IsBest t g
one-leaf-each t g = (
  λ by. record {
    within = by.within;
    greatest = λ h a b within_h up_g up_h greater.
        by.fair h a b within_h
        (subst (λ (xs : List ℕ). IsAscending xs a) (sym (one_totals (length t.wants) g by.within.wanted.leaves)) up_g)
        (subst (λ (xs : List ℕ). IsAscending xs b) (sym (one_totals (length t.wants) h within_h.wanted.leaves)) up_h)
        greater;
  },
  λ best. record {
    within = best.within;
    fair = λ h a b within_h up_g up_h greater.
        best.greatest h a b within_h
        (subst (λ (xs : List ℕ). IsAscending xs a) (one_totals (length t.wants) g best.within.wanted.leaves) up_g)
        (subst (λ (xs : List ℕ). IsAscending xs b) (one_totals (length t.wants) h within_h.wanted.leaves) up_h)
        greater;
    inside = λ h a b within_h same up_g up_h greater. best.greatest h a b within_h up_g up_h greater;
  },
)
