-- Rows with numbers: where one stands, and what a sort leaves as it was.
use Rattle.std.proofs.Common.{◌≡◌, ◌≢◌, ℕ, zero, suc, ◌+◌, ◌-◌, ◌<◌, ◌≤◌, inl, inr, Bool, true, false, cond, List, [], ◌∷◌, length, map, get_or, sym, refl, ap, ◌∙◌, subst, arith, Option, Some, None, Result, Ok, Err}
use Rattle.std.specs.Prelude.{nat_eq, MatchResult, IsPermutation}
use Rattle.std.specs.FinMap as finite
use Rattle.std.specs.FinMap.{find, get-from_entries, same_map, nat_cmp-IsAntisymmetric}
use Rattle.std.specs.List.{All, Contains}
use Rattle.std.specs.List.Sorted.{IsSearchInRange, IsBinarySearchResult, IsNonDecreasingBy}
use Rattle.std.specs.Ordering.{nat_cmp, ordering_index, is_eq}
use Rattle.std.specs.declared.cmp.Ordering.{Ordering}
use Rattle.std.specs.declared.cmp.Ordering.TheVariants.{Less, Equal, Greater}
use Rattle.std.proofs.lemmas.Bool.{eqb-true, eq-eqb, cases_lt}
use Rattle.std.proofs.lemmas.Bool.Decides.{nat_tests}
use Rattle.std.proofs.lemmas.Cmp.{ranked, nat_cmp_total}
use Rattle.std.proofs.lemmas.List.Sorted.{All-permutation, Contains-permutation}
use Rattle.line_rates.specs.Stated.{by_number, IsRising, HasTie}
use Rattle.line_rates.proofs.MarkLemmas.{bool_same}

-- the first row of a number
abbrev pub first_row : {X : Type 0} → (X → ℕ) → ℕ → List X → Option X
first_row number q [] = None
first_row number q (x ∷ xs) = cond (nat_eq (number x) q) (Some x) (first_row number q xs)

pub other_number : (n q : ℕ) → n ≢ q → nat_eq n q ≡ false
other_number n q h = bool_same (nat_eq n q) false (λ e. absurd (h (eqb-true n q e))) (λ e. absurd (cc))

pub same_test : (q n : ℕ) (r : Ordering) → r ≡ nat_cmp q n → is_eq r ≡ nat_eq n q
same_test q n Less e = let h = ranked q n Less e in sym (other_number n q (λ same. omega arith))
same_test q n Equal e = let h = ranked q n Equal e in sym (eq-eqb n q (sym h))
same_test q n Greater e = let h = ranked q n Greater e in sym (other_number n q (λ same. omega arith))

find-first : {X : Type 0} (number : X → ℕ) (q : ℕ) (xs : List X) → find nat_cmp q (map (λ row. (number row, row)) xs) ≡ first_row number q xs
find-first number q [] = refl
find-first number q (x ∷ xs) =
    ap (λ b. cond b (Some x) (find nat_cmp q (map (λ row. (number row, row)) xs))) (same_test q (number x) (nat_cmp q (number x)) refl)
    ∙ ap (cond (nat_eq (number x) q) (Some x)) (find-first number q xs)

pub get-by_number : {X : Type 0} (number : X → ℕ) (q : ℕ) (xs : List X) → finite.get (by_number number xs) q ≡ first_row number q xs
get-by_number number q xs = get-from_entries nat_cmp_total (map (λ row. (number row, row)) xs) q ∙ find-first number q xs

-- where the first row of a number stands
pub first_at : {X : Type 0} (number : X → ℕ) (q : ℕ) (xs : List X) (i : ℕ) (d : X) → i < length xs → number (get_or xs i d) ≡ q → ((j : ℕ) (e : X) → j < i → number (get_or xs j e) ≢ q)
    → first_row number q xs ≡ Some (get_or xs i d)
first_at number q [] i d lt is before = absurd (omega arith)
first_at number q (x ∷ xs) zero d lt is before = ap (λ b. cond b (Some x) (first_row number q xs)) (eq-eqb (number x) q is)
first_at number q (x ∷ xs) (suc i) d lt is before =
    ap (λ b. cond b (Some x) (first_row number q xs)) (other_number (number x) q (before 0 x (omega arith)))
    ∙ first_at number q xs i d (omega arith) is (λ j e less. before (suc j) e (omega arith))

first_none : {X : Type 0} (number : X → ℕ) (q : ℕ) (xs : List X) → All (λ x. number x ≢ q) xs → first_row number q xs ≡ None
first_none number q [] all = refl
first_none number q (x ∷ xs) all =
    ap (λ b. cond b (Some x) (first_row number q xs)) (other_number (number x) q (all 0 x (omega arith)))
    ∙ first_none number q xs (λ k d less. all (suc k) d (omega arith))

some_same : {X : Type 0} (x y : X) → Some x ≡ Some y → x ≡ y
some_same x y e = cc

pub first_contains : {X : Type 0} (number : X → ℕ) (q : ℕ) (xs : List X) (x : X) → first_row number q xs ≡ Some x → Contains xs x × (number x ≡ q)
first_contains number q [] x e = absurd (cc)
first_contains number q (y ∷ xs) x e = go (λ f. first_contains number q xs x f) (nat_eq (number y) q) refl e
  where
    go : (first_row number q xs ≡ Some x → Contains xs x × (number x ≡ q)) → (b : Bool) → nat_eq (number y) q ≡ b → cond b (Some y) (first_row number q xs) ≡ Some x → Contains (y ∷ xs) x × (number x ≡ q)
    go more true t f = let same = some_same y x f in ((0, omega arith, same), ap number (sym same) ∙ eqb-true (number y) q t)
    go more false t f = let r = more f in ((suc r.0.0, (let lt = r.0.1 in omega arith), r.0.2), r.1)

pub first_missing : {X : Type 0} (number : X → ℕ) (q : ℕ) (xs : List X) → first_row number q xs ≡ None → All (λ x. number x ≢ q) xs
first_missing {X} number q [] e = λ k d lt. absurd (omega arith)
first_missing {X} number q (y ∷ xs) e = go (λ f. first_missing number q xs f) (nat_eq (number y) q) refl e
  where
    go : (first_row number q xs ≡ None → All (λ x. number x ≢ q) xs) → (b : Bool) → nat_eq (number y) q ≡ b → cond b (Some y) (first_row number q xs) ≡ None → All (λ x. number x ≢ q) (y ∷ xs)
    go more true t f = absurd (cc)
    go more false t f = λ k d lt. each (more f) t k d lt
      where
        each : All (λ x. number x ≢ q) xs → nat_eq (number y) q ≡ false → (k : ℕ) (d : X) → k < length (y ∷ xs) → number (get_or (y ∷ xs) k d) ≢ q
        each all t zero d lt same = let yes = eq-eqb (number y) q same in absurd (cc)
        each all t (suc k) d lt same = all k d (omega arith) same

-- rising numbers
next_index : {X : Type 0} (number : X → ℕ) (xs : List X) (d : X) (i j : ℕ) → i ≡ j → number (get_or xs i d) ≡ number (get_or xs j d)
next_index number xs d i j e = ap (λ (k : ℕ). number (get_or xs k d)) e

pub rising_below : {X : Type 0} (number : X → ℕ) (xs : List X) → IsRising number xs → (j i : ℕ) (d : X) → j < i → i < length xs → number (get_or xs j d) < number (get_or xs i d)
rising_below number xs up j zero d less lt = absurd (omega arith)
rising_below number xs up j (suc i) d less lt =
    let step : number (get_or xs i d) < number (get_or xs (i + 1) d) = up i d (omega arith) in
    let at : number (get_or xs (i + 1) d) ≡ number (get_or xs (suc i) d) = next_index number xs d (i + 1) (suc i) (omega arith) in
    elim (cases_lt j i) [
      | inl h ↦ let more = rising_below number xs up j i d h (omega arith) in omega arith
      | inr h ↦ let same : number (get_or xs j d) ≡ number (get_or xs i d) = next_index number xs d j i (omega arith) in omega arith
    ]

rising_le : {X : Type 0} (number : X → ℕ) (xs : List X) → IsRising number xs → (j i : ℕ) (d : X) → j ≤ i → i < length xs → number (get_or xs j d) ≤ number (get_or xs i d)
rising_le number xs up j i d le lt = elim (cases_lt j i) [
  | inl h ↦ let more = rising_below number xs up j i d h lt in omega arith
  | inr h ↦ let same : number (get_or xs j d) ≡ number (get_or xs i d) = next_index number xs d j i (omega arith) in omega arith
]

order_rises : (a b q : ℕ) → a ≤ b → ordering_index (nat_cmp a q) ≤ ordering_index (nat_cmp b q)
order_rises a b q le = grind (arith, nat_tests)

searchable : {X : Type 0} (number : X → ℕ) (xs : List X) (q : ℕ) → IsRising number xs → IsNonDecreasingBy (λ x. ordering_index (nat_cmp (number x) q)) xs
searchable number xs q up i j d le lt = order_rises (number (get_or xs i d)) (number (get_or xs j d)) q (rising_le number xs up i j d le lt)

-- a binary search finds the row of a number
pub searched : {X : Type 0} (number : X → ℕ) (xs : List X) (q : ℕ) (r : Result ℕ ℕ) → IsRising number xs → IsSearchInRange r (length xs) → IsBinarySearchResult (λ x. nat_cmp (number x) q) xs r
    → MatchResult r (λ i. (i < length xs) × ((d : X) → first_row number q xs ≡ Some (get_or xs i d))) (λ i. first_row number q xs ≡ None)
searched number xs q (Ok i) up lt equal = (
  lt,
  λ d.
      let here : number (get_or xs i d) ≡ q = ranked (number (get_or xs i d)) q Equal (sym (equal d)) in
      first_at number q xs i d lt here (λ j e less same.
      let at : number (get_or xs i e) ≡ q = ranked (number (get_or xs i e)) q Equal (sym (equal e)) in
      let below = rising_below number xs up j i e less lt in
      absurd (omega arith)),
)
searched number xs q (Err i) up le parted = first_none number q xs (λ k d lt same. elim (cases_lt k i) [
  | inl h ↦ let less = ranked (number (get_or xs k d)) q Less (sym ((parted (searchable number xs q up)).0 k d (omega arith) h)) in absurd (omega arith)
  | inr h ↦ let more = ranked (number (get_or xs k d)) q Greater (sym ((parted (searchable number xs q up)).1 k d h lt)) in absurd (omega arith)
])

pub at_any : {X : Type 0} (xs : List X) (i : ℕ) (d e : X) → i < length xs → get_or xs i d ≡ get_or xs i e
at_any [] i d e lt = absurd (omega arith)
at_any (x ∷ xs) zero d e lt = refl
at_any (x ∷ xs) (suc i) d e lt = at_any xs i d e (omega arith)

abbrev pub IsFound : {X : Type 0} → (X → ℕ) → List X → ℕ → ℕ → Type 0
IsFound {X} number xs q i = (i < length xs) × ((d : X) → first_row number q xs ≡ Some (get_or xs i d))

pub found : {X : Type 0} (number : X → ℕ) (xs : List X) (q i : ℕ) (r : Result ℕ ℕ) → r ≡ Ok i → IsRising number xs → IsSearchInRange r (length xs) → IsBinarySearchResult (λ x. nat_cmp (number x) q) xs r → IsFound number xs q i
found number xs q i r e up range by = subst (λ (s : Result ℕ ℕ). MatchResult s (IsFound number xs q) (λ _. first_row number q xs ≡ None)) e (searched number xs q r up range by)

pub not_found : {X : Type 0} (number : X → ℕ) (xs : List X) (q i : ℕ) (r : Result ℕ ℕ) → r ≡ Err i → IsRising number xs → IsSearchInRange r (length xs) → IsBinarySearchResult (λ x. nat_cmp (number x) q) xs r → first_row number q xs ≡ None
not_found number xs q i r e up range by = subst (λ (s : Result ℕ ℕ). MatchResult s (IsFound number xs q) (λ _. first_row number q xs ≡ None)) e (searched number xs q r up range by)

-- neighbours whose numbers do not rise
pub tie_at : {X : Type 0} (number : X → ℕ) (xs : List X) (i : ℕ) (e : X) → 1 ≤ i → i < length xs → number (get_or xs i e) ≤ number (get_or xs (i - 1) e) → HasTie number xs
tie_at number xs i e from lt le = (
  i - 1,
  omega arith,
  λ d.
      let here : number (get_or xs (i - 1 + 1) d) ≡ number (get_or xs i e) = next_index number xs d (i - 1 + 1) i (omega arith) ∙ ap number (at_any xs i d e lt) in
      let before : number (get_or xs (i - 1) d) ≡ number (get_or xs (i - 1) e) = ap number (at_any xs (i - 1) d e (omega arith)) in
      omega arith,
)

-- rows, and the same rows in the order of their numbers
same_rows : {X : Type 0} (number : X → ℕ) (xs ys : List X) (q : ℕ) → IsPermutation xs ys → IsRising number ys → first_row number q xs ≡ first_row number q ys
same_rows {X} number xs ys q p up = go (first_row number q xs) refl
  where
    go : (o : Option X) → first_row number q xs ≡ o → o ≡ first_row number q ys
    go None e = sym (first_none number q ys (All-permutation (λ x. number x ≢ q) xs ys p (first_missing number q xs e)))
    go (Some x) e =
        let found = first_contains number q xs x e in
        let there = Contains-permutation xs ys x p found.0 in
        sym (first_at number q ys there.0 x there.1 (ap number there.2 ∙ found.1) (λ j d less same.
        let at : number (get_or ys there.0 d) ≡ q = ap number (at_any ys there.0 d x there.1) ∙ ap number there.2 ∙ found.1 in
        let below = rising_below number ys up j there.0 d less there.1 in absurd (omega arith)) ∙ ap (λ y. Some y) there.2)

pub same_by_number : {X : Type 0} (number : X → ℕ) (xs ys : List X) → IsPermutation xs ys → IsRising number ys → by_number number xs ≡ by_number number ys
same_by_number number xs ys p up = same_map nat_cmp_total nat_cmp-IsAntisymmetric (by_number number xs) (by_number number ys)
    (λ q. get-by_number number q xs ∙ same_rows number xs ys q p up ∙ sym (get-by_number number q ys))
