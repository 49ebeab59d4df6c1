-- Where a number stands, and one entry changed among rising numbers.
use Rattle.std.proofs.Common.{◌≡◌, ◌≢◌, ℕ, zero, suc, ◌+◌, ◌<◌, Bool, true, false, cond, List, [], ◌∷◌, length, map, get_or, set, sym, refl, ap, ◌∙◌, arith, Some, None, inl, inr}
use Rattle.std.specs.List.{All}
use Rattle.std.specs.FinMap as finite
use Rattle.std.specs.Prelude.{nat_eq}
use Rattle.std.proofs.lemmas.Bool.{eq-eqb, cases_lt}
use Rattle.std.proofs.lemmas.List.{length-map}
use Rattle.line_rates.specs.Stated.{by_number, IsRising}
use Rattle.line_rates.proofs.RowLemmas.{get-by_number, at_any, rising_below, first_contains, first_missing, other_number}
use Rattle.line_rates.specs.Put.{IsAt}

-- no entry passes a test
pub map_none : {X : Type 0} (p : X → Bool) (h : X → X) (xs : List X) → ((j : ℕ) (e : X) → j < length xs → p (get_or xs j e) ≡ false) → map (λ x. cond (p x) (h x) x) xs ≡ xs
map_none p h [] none = refl
map_none p h (x ∷ xs) none =
    ap (λ (b : Bool). cond b (h x) x ∷ map (λ y. cond (p y) (h y) y) xs) (none 0 x (omega arith))
    ∙ ap (λ ys. x ∷ ys) (map_none p h xs (λ j e lt. none (suc j) e (omega arith)))

-- the one entry that does is changed
pub map_one : {X : Type 0} (p : X → Bool) (h : X → X) (xs : List X) (i : ℕ) (d : X) → i < length xs → p (get_or xs i d) ≡ true → ((j : ℕ) (e : X) → j < length xs → j ≢ i → p (get_or xs j e) ≡ false)
    → map (λ x. cond (p x) (h x) x) xs ≡ set xs i (h (get_or xs i d))
map_one p h [] i d lt at rest = absurd (omega arith)
map_one p h (x ∷ xs) zero d lt at rest =
    ap (λ (b : Bool). cond b (h x) x ∷ map (λ y. cond (p y) (h y) y) xs) at
    ∙ ap (λ ys. h x ∷ ys) (map_none p h xs (λ j e less. rest (suc j) e (omega arith) (λ same. omega arith)))
map_one p h (x ∷ xs) (suc i) d lt at rest =
    ap (λ (b : Bool). cond b (h x) x ∷ map (λ y. cond (p y) (h y) y) xs) (rest 0 x (omega arith) (λ same. omega arith))
    ∙ ap (λ ys. x ∷ ys) (map_one p h xs i d (omega arith) at (λ j e less apart. rest (suc j) e (omega arith) (λ same. apart (omega arith))))

pub here : {X : Type 0} (number : X → ℕ) (xs : List X) (q i : ℕ) (d : X) → IsAt number xs q i → nat_eq (number (get_or xs i d)) q ≡ true
here number xs q i d at = eq-eqb (number (get_or xs i d)) q (at.2 d)

pub elsewhere : {X : Type 0} (number : X → ℕ) (xs : List X) (q i : ℕ) → IsRising number xs → IsAt number xs q i → (j : ℕ) (e : X) → j < length xs → j ≢ i → nat_eq (number (get_or xs j e)) q ≡ false
elsewhere number xs q i up at j e lt apart = other_number (number (get_or xs j e)) q (λ same. elim (cases_lt j i) [
  | inl less ↦ let below = rising_below number xs up j i e less at.0 in let is = at.2 e in absurd (omega arith)
  | inr more ↦ let below = rising_below number xs up i j e (grind (arith)) lt in let is = at.2 e in absurd (omega arith)
])

pub nowhere : {X : Type 0} (number : X → ℕ) (xs : List X) (q : ℕ) → finite.get (by_number number xs) q ≡ None → (j : ℕ) (e : X) → j < length xs → nat_eq (number (get_or xs j e)) q ≡ false
nowhere number xs q none j e lt = other_number (number (get_or xs j e)) q (first_missing number q xs (sym (get-by_number number q xs) ∙ none) j e lt)

-- where what is found stands
pub stands_at : {X : Type 0} (number : X → ℕ) (xs : List X) (q : ℕ) (x : X) → IsRising number xs → finite.get (by_number number xs) q ≡ Some x → (i : ℕ) × (i < length xs) × ((d : X) → get_or xs i d ≡ x) × (number x ≡ q)
stands_at number xs q x up e =
    let f = first_contains number q xs x (sym (get-by_number number q xs) ∙ e) in
    (f.0.0, f.0.1, (λ d. at_any xs f.0.0 d x f.0.1 ∙ f.0.2), f.1)

pub all_mapped : {X Y : Type 0} (P : X → Type 0) (Q : Y → Type 0) (f : X → Y) (xs : List X) → ((x : X) → P x → Q (f x)) → All P xs → All Q (map f xs)
all_mapped P Q f [] h all k d lt = absurd (omega arith)
all_mapped P Q f (x ∷ xs) h all zero d lt = h x (all 0 x (omega arith))
all_mapped P Q f (x ∷ xs) h all (suc k) d lt = all_mapped P Q f xs h (λ j e less. all (suc j) e (omega arith)) k d (omega arith)

pub get_mapped : {X Y : Type 0} (f : X → Y) (xs : List X) (k : ℕ) (d : Y) (e : X) → k < length xs → get_or (map f xs) k d ≡ f (get_or xs k e)
get_mapped f [] k d e lt = absurd (omega arith)
get_mapped f (x ∷ xs) zero d e lt = refl
get_mapped f (x ∷ xs) (suc k) d e lt = get_mapped f xs k d e (omega arith)

pub rising_mapped : {X Y : Type 0} (number : X → ℕ) (other : Y → ℕ) (f : X → Y) (xs : List X) → ((x : X) → other (f x) ≡ number x) → IsRising number xs → IsRising other (map f xs)
rising_mapped number other f [] same up k d lt = absurd (omega arith)
rising_mapped number other f (x ∷ xs) same up k d lt =
    let many : length (map f (x ∷ xs)) ≡ length (x ∷ xs) = length-map (x ∷ xs) f in
    let first : other (get_or (map f (x ∷ xs)) k d) ≡ number (get_or (x ∷ xs) k x) = ap other (get_mapped f (x ∷ xs) k d x (omega arith)) ∙ same (get_or (x ∷ xs) k x) in
    let next : other (get_or (map f (x ∷ xs)) (k + 1) d) ≡ number (get_or (x ∷ xs) (k + 1) x) = ap other (get_mapped f (x ∷ xs) (k + 1) d x (omega arith)) ∙ same (get_or (x ∷ xs) (k + 1) x) in
    let step = up k x (omega arith) in
    omega arith

pub kept_mapped : {X Y : Type 0} (row : X → Y) (f : X → X) (xs : List X) → ((x : X) → row (f x) ≡ row x) → map row (map f xs) ≡ map row xs
kept_mapped row f [] same = refl
kept_mapped row f (x ∷ xs) same = ap (λ y. y ∷ map row (map f xs)) (same x) ∙ ap (λ ys. row x ∷ ys) (kept_mapped row f xs same)
