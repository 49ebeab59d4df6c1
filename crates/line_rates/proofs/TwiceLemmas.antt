-- A number stands twice among rows just where, once they are sorted, two neighbours have it.
use Rattle.std.proofs.Common.{◌≡◌, ℕ, zero, suc, ◌+◌, ◌<◌, ◌≤◌, Bool, true, false, ◌||◌, cond, List, [], ◌∷◌, length, map, get_or, sym, refl, ap, ◌∙◌, arith}
use Rattle.std.specs.Prelude.{nat_eq, nat_lt, count_by, IsPermutation}
use Rattle.std.specs.List.{list_any}
use Rattle.std.specs.List.Sorted.{IsNonDecreasingBy}
use Rattle.std.proofs.lemmas.Bool.{eqb-true, eq-eqb, ltb-true, lt-ltb}
use Rattle.std.proofs.lemmas.List.Sorted.{list_any-IsPermutation, sum_by-IsPermutation}
use Rattle.std.proofs.lemmas.List.Sums.{sum_by-cons}
use Rattle.line_rates.specs.Stated.{has_twice, IsRising, HasTie}
use Rattle.line_rates.proofs.MarkLemmas.{bool_same, second_true}

pub any_alike : {X : Type 0} (p q : X → Bool) → ((n : X) → p n ≡ q n) → (ns : List X) → list_any p ns ≡ list_any q ns
any_alike p q h [] = refl
any_alike p q h (n ∷ ns) = ap (λ (b : Bool). b || list_any p ns) (h n) ∙ ap (λ (b : Bool). q n || b) (any_alike p q h ns)

any_none : (p : ℕ → Bool) → ((n : ℕ) → p n ≡ false) → (ns : List ℕ) → list_any p ns ≡ false
any_none p h [] = refl
any_none p h (n ∷ ns) = ap (λ (b : Bool). b || list_any p ns) (h n) ∙ any_none p h ns

pub twice-moved : (ns ms : List ℕ) → IsPermutation ns ms → has_twice ns ≡ has_twice ms
twice-moved ns ms p =
    list_any-IsPermutation (λ n. nat_lt 1 (count_by (nat_eq n) ns)) ns ms p
    ∙ any_alike (λ n. nat_lt 1 (count_by (nat_eq n) ns)) (λ n. nat_lt 1 (count_by (nat_eq n) ms)) (λ n. ap (nat_lt 1) (sym (sum_by-IsPermutation (λ m. cond (nat_eq n m) 1 0) ns ms p))) ms

abbrev one_if : Bool → ℕ
one_if b = cond b 1 0

abbrev one_at : ℕ → ℕ → ℕ
one_at v m = cond (nat_eq v m) 1 0

apart : (v n : ℕ) → v < n → one_at v n ≡ 0
apart v n less = ap one_if (bool_same (nat_eq v n) false (λ e. let same = eqb-true v n e in absurd (omega arith)) (λ e. absurd (cc)))

rising_tail : {X : Type 0} (number : X → ℕ) (x : X) (xs : List X) → IsRising number (x ∷ xs) → IsRising number xs
rising_tail number x xs up k d lt =
    let at : number (get_or (x ∷ xs) (suc k + 1) d) ≡ number (get_or (x ∷ xs) (suc (k + 1)) d) = ap (λ (m : ℕ). number (get_or (x ∷ xs) m d)) (let e : suc k + 1 ≡ suc (k + 1) = omega arith in e) in
    let step : number (get_or (x ∷ xs) (suc k) d) < number (get_or (x ∷ xs) (suc k + 1) d) = up (suc k) d (omega arith) in
    let there : number (get_or xs k d) < number (get_or (x ∷ xs) (suc (k + 1)) d) = omega arith in
    there

none_above : {X : Type 0} (number : X → ℕ) (x : X) (xs : List X) → IsRising number (x ∷ xs) → (v : ℕ) → v ≤ number x → count_by (nat_eq v) (map number xs) ≡ 0
none_above number x [] up v le = refl
none_above number x (y ∷ ys) up v le =
    let step : number x < number y = up 0 x (omega arith) in
    omega (arith, sum_by-cons (one_at v) (number y) (map number ys), apart v (number y) (omega arith), none_above number y ys (rising_tail number x (y ∷ ys) up) v (omega arith))

at_most_once : {X : Type 0} (number : X → ℕ) (xs : List X) → IsRising number xs → (v : ℕ) → count_by (nat_eq v) (map number xs) ≤ 1
at_most_once number [] up v = omega arith
at_most_once number (x ∷ xs) up v = go (at_most_once number xs (rising_tail number x xs up) v) (nat_eq v (number x)) refl
  where
    go : count_by (nat_eq v) (map number xs) ≤ 1 → (b : Bool) → nat_eq v (number x) ≡ b → count_by (nat_eq v) (map number (x ∷ xs)) ≤ 1
    go more true e =
        let same = eqb-true v (number x) e in
        let one : one_at v (number x) ≡ 1 = ap one_if e in
        omega (arith, sum_by-cons (one_at v) (number x) (map number xs), none_above number x xs up v (omega arith))
    go more false e =
        let none : one_at v (number x) ≡ 0 = ap one_if e in
        omega (arith, sum_by-cons (one_at v) (number x) (map number xs))

pub rising-not_twice : {X : Type 0} (number : X → ℕ) (xs : List X) → IsRising number xs → has_twice (map number xs) ≡ false
rising-not_twice number xs up = any_none (λ n. nat_lt 1 (count_by (nat_eq n) (map number xs)))
    (λ n. bool_same (nat_lt 1 (count_by (nat_eq n) (map number xs))) false (λ e. let more = ltb-true 1 (count_by (nat_eq n) (map number xs)) e in absurd (omega (arith, at_most_once number xs up n))) (λ e. absurd (cc)))
    (map number xs)

-- a number that stands twice, and passes each test that a number of the list is looked for by
record IsTwo (ns : List ℕ) : Type 0 where
  number : ℕ
  twice : 2 ≤ count_by (nat_eq number) ns
  stands : (p : ℕ → Bool) → p number ≡ true → list_any p ns ≡ true

two_at : {X : Type 0} (number : X → ℕ) (xs : List X) (k : ℕ) → k + 1 < length xs → ((d : X) → number (get_or xs k d) ≡ number (get_or xs (k + 1) d)) → IsTwo (map number xs)
two_at number [] k lt e = absurd (omega arith)
two_at number (x ∷ []) k lt e = absurd (omega arith)
two_at number (x ∷ y ∷ ys) zero lt e =
    let same : number x ≡ number y = e x in
    let first : one_at (number x) (number x) ≡ 1 = ap one_if (eq-eqb (number x) (number x) refl) in
    let second : one_at (number x) (number y) ≡ 1 = ap one_if (eq-eqb (number x) (number y) same) in
    record {
      number = number x;
      twice = omega (arith, sum_by-cons (one_at (number x)) (number x) (map number (y ∷ ys)), sum_by-cons (one_at (number x)) (number y) (map number ys));
      stands = λ p h. ap (λ (b : Bool). b || list_any p (map number (y ∷ ys))) h;
    }
two_at number (x ∷ y ∷ ys) (suc k) lt e =
    let more = two_at number (y ∷ ys) k (omega arith) (λ d. e d ∙ ap (λ (m : ℕ). number (get_or (x ∷ y ∷ ys) m d)) (let f : suc k + 1 ≡ suc (k + 1) = omega arith in f)) in
    record {
      number = more.number;
      twice = omega (arith, sum_by-cons (one_at more.number) (number x) (map number (y ∷ ys)), more.twice);
      stands = λ p h. second_true (p (number x)) (list_any p (map number (y ∷ ys))) (more.stands p h);
    }

pub tie-twice : {X : Type 0} (number : X → ℕ) (xs : List X) → IsNonDecreasingBy number xs → HasTie number xs → has_twice (map number xs) ≡ true
tie-twice number xs sorted tie =
    let two = two_at number xs tie.0 tie.1 (λ d. let le = sorted tie.0 (tie.0 + 1) d (omega arith) tie.1 in let ge = tie.2 d in omega arith) in
    two.stands (λ n. nat_lt 1 (count_by (nat_eq n) (map number xs))) (lt-ltb 1 (count_by (nat_eq two.number) (map number xs)) (let twice = two.twice in omega arith))
