-- Numbers by their digits.
use Rattle.std.proofs.Common.{arith, refl, ap, ◌≡◌, ◌≤◌, ◌<◌, ◌+◌, ◌-◌, ◌∷◌, [], ℕ, List, Bool, true, false, ◌&&◌, length, ◌^◌, cond, eqb, get_or, min, not, None, Some, option_map}
use Rattle.std.specs.Char.{digit_value, is_ascii_digit}
use Rattle.std.specs.Int.{IsInRange}
use Rattle.std.specs.List.{list_all}
use Rattle.std.specs.Str.{all_ascii_digits}
use Rattle.std.specs.Str.Parse.{digits_value}
use Rattle.std.proofs.lemmas.Bool.Decides.{nat_tests}
use Rattle.std.proofs.lemmas.Str.Parse.{IsNumeralModel, digit_at, digits_value_short, numerals_by_value, tells_all_ascii_digits}
use Rattle.ftp_wire.specs.Arguments.{is_number, number_cut_at, number_of}

pub all_digits : (text : List ℕ) → list_all is_ascii_digit text ≡ all_ascii_digits text
all_digits [] = refl
all_digits (c ∷ cs) = ap (λ b. is_ascii_digit c && b) (all_digits cs)

pub and_right : (a b : Bool) → (a && b) ≡ true → b ≡ true
and_right true b e = e
and_right false b e = cc

pub own : IsNumeralModel (λ ds. all_ascii_digits ds ≡ true) (digits_value 10)
own = numerals_by_value _ tells_all_ascii_digits

pub number_digit : (text : List ℕ) (i : ℕ) → is_number text ≡ true → i < length text → IsInRange 48 57 (get_or text i 0)
number_digit text i e l = digit_at text i (own.to text (and_right (not (eqb (length text) 0)) (all_ascii_digits text) e)) l

pub digit_value_is : (c : ℕ) → IsInRange 48 57 c → digit_value c ≡ c - 48
digit_value_is c h = grind (arith, nat_tests)

exact : (b : Bool) (v m n : ℕ) → (b ≡ true → v ≤ m) → Some n ≡ option_map (λ k. min k m) (cond b (Some v) None) → cond b (Some v) None ≡ Some n
exact true v m n h e =
    let le : v ≤ m = h refl in
    let is : n ≡ min v m = cc in
    let same : v ≡ n = omega arith in
    ap Some same
exact false v m n h e = cc

-- at most nineteen digits stand for a number below 2 ^ 64
pub offset_exact : (text : List ℕ) (n m : ℕ) → m + 1 ≡ 2 ^ 64 → length text ≤ 19 → Some n ≡ number_cut_at m text → number_of text ≡ Some n
unfolding number_of number_cut_at
offset_exact text n m most short e =
    let small : is_number text ≡ true → digits_value 10 text ≤ m =
    λ h. omega (arith, digits_value_short own text 19 (and_right (not (eqb (length text) 0)) (all_ascii_digits text) h) short) in
    exact (is_number text) (digits_value 10 text) m n small e
