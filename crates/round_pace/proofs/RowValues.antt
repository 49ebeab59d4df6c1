-- Rows in the order of their numbers are the values of their map.
use Rattle.std.proofs.Common.{◌≡◌, ℕ, suc, ◌+◌, ◌<◌, Bool, true, false, ◌&&◌, T, cond, List, [], ◌∷◌, length, map, get_or, sym, refl, ap, ◌∙◌, subst, arith, Some}
use Rattle.std.specs.Prelude.{nat_eq}
use Rattle.std.specs.FinMap as finite
use Rattle.std.specs.FinMap.{is_sorted, get-from_entries, get-from_sorted, entries-from_sorted, from_sorted, same_map, nat_cmp-IsAntisymmetric}
use Rattle.std.specs.FinMap.Entries.{below_all}
use Rattle.std.specs.Cmp.{nat_cmp_total}
use Rattle.std.specs.List.{All}
use Rattle.std.specs.Ordering.{nat_cmp, is_lt}
use Rattle.std.specs.declared.cmp.Ordering.TheVariants.{Less, Equal, Greater}
use Rattle.std.proofs.lemmas.Bool.{lt-ltb}
use Rattle.line_rates.specs.Stated.{by_number, IsRising}
use Rattle.line_rates.proofs.RowLemmas.{first_row, first_at, rising_below, at_any}

abbrev numbered : {X : Type 0} → (X → ℕ) → List X → List (ℕ × X)
numbered number xs = map (λ x. (number x, x)) xs

below_rows : {X : Type 0} (number : X → ℕ) (n : ℕ) (xs : List X) → ((j : ℕ) (e : X) → j < length xs → n < number (get_or xs j e)) → T (below_all nat_cmp n (numbered number xs))
below_rows number n [] above = tt
below_rows number n (x ∷ xs) above =
    subst (λ b. T (is_lt (cond b Less (cond (nat_eq n (number x)) Equal Greater)) && below_all nat_cmp n (numbered number xs)))
    (sym (lt-ltb n (number x) (above 0 x (omega arith))))
    (below_rows number n xs (λ j e lt. above (suc j) e (omega arith)))

sorted_rows : {X : Type 0} (number : X → ℕ) (xs : List X) → IsRising number xs → T (is_sorted nat_cmp (numbered number xs))
sorted_rows number [] up = tt
sorted_rows number (x ∷ xs) up =
    both (below_all nat_cmp (number x) (numbered number xs)) (is_sorted nat_cmp (numbered number xs))
    (below_rows number (number x) xs (λ j e lt. rising_below number (x ∷ xs) up 0 (suc j) e (omega arith) (omega arith)))
    (sorted_rows number xs (λ k d lt. rising_below number (x ∷ xs) up (suc k) (suc (k + 1)) d (omega arith) (omega arith)))
  where
    both : (a b : Bool) → T a → T b → T (a && b)
    both true b p q = q
    both false b p q = p

pub values_of_rows : {X : Type 0} (number : X → ℕ) (xs : List X) → IsRising number xs → finite.values (by_number number xs) ≡ xs
values_of_rows {X} number xs up =
    ap (λ (m : finite.FinMap nat_cmp X). finite.values m)
    (same_map nat_cmp_total nat_cmp-IsAntisymmetric (by_number number xs) (from_sorted {R = nat_cmp} (numbered number xs)) (λ q. get-from_entries nat_cmp_total (numbered number xs) q ∙ sym (get-from_sorted nat_cmp (numbered number xs) q (sorted_rows number xs up))))
    ∙ ap (map (λ (e : ℕ × X). e.1)) (entries-from_sorted nat_cmp (numbered number xs) (sorted_rows number xs up)) ∙ rows xs
  where
    rows : (ys : List X) → map (λ (e : ℕ × X). e.1) (numbered number ys) ≡ ys
    rows [] = refl
    rows (y ∷ ys) = ap (λ zs. y ∷ zs) (rows ys)

-- a row is the first of its number
pub found_at : {X : Type 0} (number : X → ℕ) (xs : List X) → IsRising number xs → All (λ x. first_row number (number x) xs ≡ Some x) xs
found_at number xs up k d lt =
    first_at number (number (get_or xs k d)) xs k d lt refl (λ j e less same.
    let below = rising_below number xs up j k e less lt in
    let here : number (get_or xs k e) ≡ number (get_or xs k d) = ap number (at_any xs k e d lt) in
    absurd (omega (arith, below, here, same)))
