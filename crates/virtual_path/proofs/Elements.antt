-- What holds of each element of a list.
use Rattle.std.proofs.Common.{◌≡◌, ◌≢◌, ℕ, zero, suc, ◌<◌, Bool, true, false, ◌||◌, List, [], ◌∷◌, ◌++◌, length, take, drop, get_or, sym, refl, arith}
use Rattle.std.specs.Bool.{MatchBool}
use Rattle.std.specs.List.{list_any, AllByRecursion, AllWithin, HoldsAt}
use Rattle.std.proofs.lemmas.List.Folds.{list_any_at, list_any_none}

pub each-append : {X : Type 0} (P : X → Type 0) (xs ys : List X) → AllByRecursion P xs → AllByRecursion P ys → AllByRecursion P (xs ++ ys)
each-append P [] ys a b = b
each-append P (x ∷ xs) ys a b = (a.0, each-append P xs ys a.1 b)

pub each-take : {X : Type 0} (P : X → Type 0) (n : ℕ) (xs : List X) → AllByRecursion P xs → AllByRecursion P (take n xs)
each-take P zero xs a = tt
each-take P (suc n) [] a = tt
each-take P (suc n) (x ∷ xs) a = (a.0, each-take P n xs a.1)

pub each-drop : {X : Type 0} (P : X → Type 0) (n : ℕ) (xs : List X) → AllByRecursion P xs → AllByRecursion P (drop n xs)
each-drop P zero xs a = a
each-drop P (suc n) [] a = tt
each-drop P (suc n) (x ∷ xs) a = each-drop P n xs a.1

pub each-at : {X : Type 0} (P : X → Type 0) (xs : List X) (k : ℕ) (d : X) → AllByRecursion P xs → k < length xs → P (get_or xs k d)
each-at P [] k d a h = absurd (omega arith)
each-at P (x ∷ xs) zero d a h = a.0
each-at P (x ∷ xs) (suc k) d a h = each-at P xs k d a.1 (omega arith)

pub each-weaker : {X : Type 0} (P Q : X → Type 0) → ((x : X) → P x → Q x) → (xs : List X) → AllByRecursion P xs → AllByRecursion Q xs
each-weaker P Q f [] a = tt
each-weaker P Q f (x ∷ xs) a = (f x a.0, each-weaker P Q f xs a.1)

pub each-both : {X : Type 0} (P Q : X → Type 0) (xs : List X) → AllByRecursion P xs → AllByRecursion Q xs → AllByRecursion (λ x. P x × Q x) xs
each-both P Q [] a b = tt
each-both P Q (x ∷ xs) a b = ((a.0, b.0), each-both P Q xs a.1 b.1)

neither : (b c : Bool) → (b || c) ≡ false → (b ≡ false) × (c ≡ false)
neither true c e = cc
neither false c e = (refl, e)

pub none_passes : {X : Type 0} (p : X → Bool) (xs : List X) → list_any p xs ≡ false → AllByRecursion (λ x. p x ≡ false) xs
none_passes p [] e = tt
none_passes p (x ∷ xs) e = let both = neither (p x) (list_any p xs) e in (both.0, none_passes p xs both.1)

-- what `any` answers
pub any_answer : {X : Type 0} (p : X → Bool) (xs : List X) (d : X) (r : Bool) → MatchBool r ((k : ℕ) × (k < length xs) × HoldsAt (λ x. p x ≡ true) xs k) (AllWithin (λ x. p x ≡ false) xs 0 (length xs)) → r ≡ list_any p xs
any_answer p xs d true is = sym (list_any_at p xs is.0 d is.1 (is.2 d))
any_answer p xs d false is = sym (list_any_none p xs (λ k e less. is k e (omega arith) less))

-- what no index has, no element has
pub none_at : (p : ℕ → Bool) (q : ℕ) (xs : List ℕ) → ((x : ℕ) → x ≢ q → p x ≡ false) → ((i : ℕ) → i < length xs → get_or xs i 0 ≢ q) → AllByRecursion (λ x. p x ≡ false) xs
none_at p q [] f none = tt
none_at p q (x ∷ xs) f none = (f x (none 0 (omega arith)), none_at p q xs f (λ i less. none (suc i) (omega arith)))
