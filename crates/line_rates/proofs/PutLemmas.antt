-- One row is put in place of another of its number.
use Rattle.std.proofs.Common.{◌≡◌, ◌≢◌, ℕ, zero, suc, ◌<◌, Bool, true, false, cond, List, [], ◌∷◌, length, get_or, set, sym, refl, ap, ◌∙◌, arith, Option, Some, None, Result, Ok, Err}
use Rattle.std.specs.Prelude.{nat_eq}
use Rattle.std.specs.FinMap as finite
use Rattle.std.specs.FinMap.{get-insert, same_map, nat_cmp-IsAntisymmetric}
use Rattle.std.specs.List.Sorted.{IsSearchInRange, IsBinarySearchResult}
use Rattle.std.specs.Ordering.{nat_cmp}
use Rattle.std.proofs.lemmas.Bool.{eqb-true}
use Rattle.std.proofs.lemmas.Cmp.{nat_cmp_total}
use Rattle.line_rates.specs.Put.{IsAt, put, put_over}
use Rattle.line_rates.specs.Stated.{by_number, IsRising}
use Rattle.line_rates.proofs.RowLemmas.{first_row, get-by_number, first_at, found, not_found, first_contains, rising_below, same_test}

pub at_place : {X : Type 0} (number : X → ℕ) (xs : List X) (q i : ℕ) (r : Result ℕ ℕ) → r ≡ Ok i → IsRising number xs → IsSearchInRange r (length xs) → IsBinarySearchResult (λ x. nat_cmp (number x) q) xs r → IsAt number xs q i
at_place number xs q i r e up range by =
    let f = found number xs q i r e up range by in
    (f.0, (λ d. get-by_number number q xs ∙ f.1 d), (λ d. (first_contains number q xs (get_or xs i d) (f.1 d)).1))

-- an index that has the number is the place
pub at_guess : {X : Type 0} (number : X → ℕ) (xs : List X) (q i : ℕ) → IsRising number xs → i < length xs → ((d : X) → number (get_or xs i d) ≡ q) → IsAt number xs q i
at_guess number xs q i up lt is = (
  lt,
  (λ d. get-by_number number q xs ∙ first_at number q xs i d lt (is d) (λ j e less same. (let below : number (get_or xs j e) < number (get_or xs i e) = rising_below number xs up j i e less lt in let here : number (get_or xs i e) ≡ q = is e in let there : number (get_or xs j e) ≡ q = same in absurd (omega arith)))),
  is,
)

pub at_none : {X : Type 0} (number : X → ℕ) (xs : List X) (q i : ℕ) (r : Result ℕ ℕ) → r ≡ Err i → IsRising number xs → IsSearchInRange r (length xs) → IsBinarySearchResult (λ x. nat_cmp (number x) q) xs r → finite.get (by_number number xs) q ≡ None
at_none number xs q i r e up range by = get-by_number number q xs ∙ not_found number xs q i r e up range by

two_tests : {X : Type 0} (m n q : ℕ) → m ≢ n → (x y : Option X) (z : Option X) → cond (nat_eq m q) x (cond (nat_eq n q) y z) ≡ cond (nat_eq n q) y (cond (nat_eq m q) x z)
two_tests m n q apart x y z = go (nat_eq m q) (nat_eq n q) refl refl
  where
    go : (a b : Bool) → nat_eq m q ≡ a → nat_eq n q ≡ b → cond a x (cond b y z) ≡ cond b y (cond a x z)
    go true true e f = absurd (apart (eqb-true m q e ∙ sym (eqb-true n q f)))
    go true false e f = refl
    go false true e f = refl
    go false false e f = refl

one_test : {X : Type 0} (b : Bool) (x y z : Option X) → cond b y z ≡ cond b y (cond b x z)
one_test true x y z = refl
one_test false x y z = refl

first_put : {X : Type 0} (number : X → ℕ) (q : ℕ) (xs : List X) (i : ℕ) (y d : X) → i < length xs → number (get_or xs i d) ≡ number y → ((j : ℕ) (e : X) → j < i → number (get_or xs j e) ≢ number y)
    → first_row number q (set xs i y) ≡ cond (nat_eq (number y) q) (Some y) (first_row number q xs)
first_put number q [] i y d lt is before = absurd (omega arith)
first_put number q (x ∷ xs) zero y d lt is before =
    one_test (nat_eq (number y) q) (Some x) (Some y) (first_row number q xs)
    ∙ ap (λ (n : ℕ). cond (nat_eq (number y) q) (Some y) (cond (nat_eq n q) (Some x) (first_row number q xs))) (sym is)
first_put number q (x ∷ xs) (suc i) y d lt is before =
    ap (cond (nat_eq (number x) q) (Some x)) (first_put number q xs i y d (omega arith) is (λ j e less. before (suc j) e (omega arith)))
    ∙ two_tests (number x) (number y) q (before 0 x (omega arith)) (Some x) (Some y) (first_row number q xs)

-- the map of the rows with one put in place of another
pub put_at : {X : Type 0} (number : X → ℕ) (xs : List X) (i : ℕ) (y : X) → IsRising number xs → IsAt number xs (number y) i → by_number number (set xs i y) ≡ put (by_number number xs) (number y) y
put_at {X} number xs i y up at =
    let before : (j : ℕ) (e : X) → j < i → number (get_or xs j e) ≢ number y = λ j e less same. (let below : number (get_or xs j e) < number (get_or xs i e) = rising_below number xs up j i e less at.0 in let is : number (get_or xs i e) ≡ number y = at.2 e in let also : number (get_or xs j e) ≡ number y = same in absurd (omega arith)) in
    let inserted : by_number number (set xs i y) ≡ finite.insert (by_number number xs) (number y) y =
    same_map nat_cmp_total nat_cmp-IsAntisymmetric (by_number number (set xs i y)) (finite.insert (by_number number xs) (number y) y)
    (λ q. get-by_number number q (set xs i y)
    ∙ (first_put number q xs i y y at.0 (at.2 y) before
    ∙ (ap (cond (nat_eq (number y) q) (Some y)) (sym (get-by_number number q xs))
    ∙ (ap (λ b. cond b (Some y) (finite.get (by_number number xs) q)) (sym (same_test q (number y) (nat_cmp q (number y)) refl))
    ∙ sym (get-insert nat_cmp_total (by_number number xs) (number y) y q))))) in
    inserted ∙ ap (λ o. put_over o (by_number number xs) (number y) y) (sym (at.1 y))
