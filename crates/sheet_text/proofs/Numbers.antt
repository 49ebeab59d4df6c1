-- The values of digits.
use Rattle.std.proofs.Common.{◌≡◌, ◌∙◌, ℕ, zero, suc, ◌<◌, ◌≤◌, ◌+◌, ◌*◌, ◌-◌, ◌^◌, ◌&&◌, Bool, true, false, List, [], ◌∷◌, length, get_or, take, map, refl, ap, arith, rules, tests}
use Rattle.std.specs.List.{list_all}
use Rattle.std.specs.Char.{is_ascii_digit}
use Rattle.std.specs.Int.Digits.{number_from_digits, AllBelowBase}
use Rattle.std.proofs.lemmas.Int.Digits.{number_lt, number_more}
use Rattle.std.proofs.lemmas.List.{length-take, length-map}
use Rattle.std.proofs.Math.Nat.{pow-le-pow_right}
use Rattle.sheet_text.specs.Text.{digit}

pub both : (b d : Bool) → (b && d) ≡ true → (b ≡ true) × (d ≡ true)
both true d e = (refl, e)
both false d e = cc

pub all_at : {X : Type 0} (p : X → Bool) (xs : List X) (i : ℕ) (d : X) → list_all p xs ≡ true → i < length xs → p (get_or xs i d) ≡ true
all_at p [] i d e l = absurd (omega arith)
all_at p (x ∷ xs) zero d e l = (both (p x) (list_all p xs) e).0
all_at p (x ∷ xs) (suc i) d e l = all_at p xs i d (both (p x) (list_all p xs) e).1 (omega arith)

pub digit_bounds : (octet : ℕ) → is_ascii_digit octet ≡ true → (48 ≤ octet) × (octet ≤ 57)
digit_bounds octet e = search (rules, tests)

below_base : (text : List ℕ) (i : ℕ) → list_all is_ascii_digit text ≡ true → AllBelowBase 10 (take i (map digit text))
below_base text zero e = tt
below_base [] (suc i) e = tt
below_base (x ∷ xs) (suc i) e =
    let parts = both (is_ascii_digit x) (list_all is_ascii_digit xs) e in
    let bounds = digit_bounds x parts.0 in
    (omega (arith, bounds.0, bounds.1), below_base xs i parts.1)

get_digit : (text : List ℕ) (i : ℕ) → i < length text → get_or (map digit text) i 0 ≡ digit (get_or text i 0)
get_digit [] i l = absurd (omega arith)
get_digit (x ∷ xs) zero l = refl
get_digit (x ∷ xs) (suc i) l = get_digit xs i (omega arith)

pub value_small : (text : List ℕ) (i : ℕ) → list_all is_ascii_digit text ≡ true → i ≤ 18 → number_from_digits 10 (take i (map digit text)) < 1000000000000000000
value_small text i e l =
    let least : number_from_digits 10 (take i (map digit text)) < 10 ^ length (take i (map digit text)) = number_lt 10 (take i (map digit text)) (below_base text i e) in
    let short : length (take i (map digit text)) ≤ 18 = omega (arith, length-take i (map digit text)) in
    let most : 10 ^ length (take i (map digit text)) ≤ 10 ^ 18 = pow-le-pow_right {n = 10} (omega arith) {i = length (take i (map digit text))} {j = 18} short in
    omega (arith, least, most)

pub value_more : (text : List ℕ) (i : ℕ) → i < length text → number_from_digits 10 (take (i + 1) (map digit text)) ≡ number_from_digits 10 (take i (map digit text)) * 10 + (get_or text i 0 - 48)
value_more text i l =
    number_more 10 (map digit text) i (omega (arith, length-map text digit)) ∙ ap (λ d. number_from_digits 10 (take i (map digit text)) * 10 + d) (get_digit text i l)
