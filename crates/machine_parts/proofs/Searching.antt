-- A number among numbers that ascend.
use Rattle.std.proofs.Common.{◌≡◌, ℕ, zero, suc, count_by, take, ◌+◌, ◌<◌, ◌≤◌, Bool, true, false, ◌||◌, List, [], ◌∷◌, Result, Ok, Err, MatchResult, length, get_or, nat_eq, refl, sym, ap, ◌∙◌, ◌⊎◌, inl, inr, arith}
use Rattle.std.specs.List.{list_any}
use Rattle.std.specs.List.Sorted.{IsBinarySearchResult, IsNonDecreasing}
use Rattle.std.specs.Int.{from_bool}
use Rattle.std.specs.Ordering.{nat_cmp}
use Rattle.std.specs.Result.{is_ok}
use Rattle.std.proofs.lemmas.Bool.{cases_lt, eqb-true}
use Rattle.std.proofs.lemmas.List.Sorted.{searched}
use Rattle.std.proofs.lemmas.List.Sums.{count_by_more_no, count_by_more_yes}

any-at : (xs : List ℕ) (x i : ℕ) → i < length xs → get_or xs i 0 ≡ x → list_any (λ other. nat_eq other x) xs ≡ true
any-at [] x i within is = absurd (omega (arith, within))
any-at (y ∷ xs) x zero within is = grind (arith, is)
any-at (y ∷ xs) x (suc i) within is =
    let later : list_any (λ other. nat_eq other x) xs ≡ true = any-at xs x i (omega (arith, within)) is in
    or-true (nat_eq y x) (list_any (λ other. nat_eq other x) xs) later
  where
    or-true : (a b : Bool) → b ≡ true → (a || b) ≡ true
    or-true true b is = refl
    or-true false b is = is

none-at : (xs : List ℕ) (x : ℕ) → ((k : ℕ) → k < length xs → get_or xs k 0 ≡ x → ⊥) → list_any (λ other. nat_eq other x) xs ≡ false
none-at [] x none = refl
none-at (y ∷ xs) x none = first (nat_eq y x) refl (none-at xs x (λ k within is. none (suc k) (omega (arith, within)) is))
  where
    first : (b : Bool) → nat_eq y x ≡ b → list_any (λ other. nat_eq other x) xs ≡ false → (b || list_any (λ other. nat_eq other x) xs) ≡ false
    first true e later = absurd (none zero (omega arith) (eqb-true y x e))
    first false e later = later

by_answer : (xs : List ℕ) (x : ℕ) (r : Result ℕ ℕ)
    → MatchResult r (λ i. (i < length xs) × (get_or xs i 0 ≡ x)) (λ i. (i ≤ length xs) × ((k : ℕ) → k < i → get_or xs k 0 < x) × ((k : ℕ) → i ≤ k → k < length xs → x < get_or xs k 0))
    → is_ok r ≡ list_any (λ other. nat_eq other x) xs
by_answer xs x (Ok i) found = sym (any-at xs x i found.0 found.1)
by_answer xs x (Err i) none = sym (none-at xs x (λ k within is. by_side k within is (cases_lt k i)))
  where
    by_side : (k : ℕ) → k < length xs → get_or xs k 0 ≡ x → (k < i) ⊎ (i ≤ k) → ⊥
    by_side k within is (inl before) = omega (arith, is, none.1 k before)
    by_side k within is (inr after) = omega (arith, is, none.2 k after within)

pub is-among : (xs : List ℕ) (x : ℕ) (r : Result ℕ ℕ) → IsBinarySearchResult (λ y. nat_cmp y x) xs r → IsNonDecreasing xs → is_ok r ≡ list_any (λ other. nat_eq other x) xs
is-among xs x r found rising = by_answer xs x r (searched xs x r found (λ i j below within. rising i j 0 below within))

-- ---- one more of a count

pub count-more : (p : ℕ → Bool) (xs : List ℕ) (i x n : ℕ) (b : Bool) → i < length xs → x ≡ get_or xs i 0 → n ≡ count_by p (take i xs) → b ≡ p x
    → n + from_bool b ≡ count_by p (take (i + 1) xs)
count-more p xs i x n true within is before so =
    let more = count_by_more_yes p xs i 0 within (ap p (sym is) ∙ sym so) in omega (arith, more, before)
count-more p xs i x n false within is before so =
    let same = count_by_more_no p xs i 0 within (ap p (sym is) ∙ sym so) in omega (arith, same, before)

pub one-most : (b : Bool) → from_bool b ≤ 1
one-most true = omega arith
one-most false = omega arith
