-- Numbers as the log has them.
use Rattle.std.proofs.Common.{◌≡◌, ◌≢◌, ◌∙◌, ℕ, zero, suc, ◌==◌, ◌<◌, ◌≤◌, ◌+◌, ◌-◌, ◌*◌, ◌/◌, ◌%◌, ◌^◌, ◌&&◌, ◌||◌, Bool, true, false, cond, not, nat_eq, nat_le, nat_lt, List, [], ◌∷◌, ◌++◌, map, refl, ap, sym, subst, rules, arith, tests, length, get_or, Option, Some, None, inl, inr}
use Rattle.std.specs.Char.{digit_value, is_ascii_digit}
use Rattle.std.specs.Fmt.{decimal}
use Rattle.std.specs.List.{AllByRecursion, list_all}
use Rattle.std.specs.Net.Text.{ipv4_text}
use Rattle.std.specs.Str.{chars}
use Rattle.std.specs.Str.Parse.{AllDigits, digits_value}
use Rattle.std.proofs.lemmas.Bool.{cases_lt}
use Rattle.std.proofs.lemmas.Fmt.{decimal_digit, decimal_is_IsNumeral, first_decimal}
use Rattle.std.proofs.lemmas.Str.{chars-IsAscii}
use Rattle.std.proofs.lemmas.Str.Parse.{digit_from_value}
use Rattle.transfer_log.specs.Moments.{four_digits, two_digits}
use Rattle.transfer_log.specs.Names.{plain}
use Rattle.log_lines.specs.Names.{is_name, is_plain}
use Rattle.log_lines.specs.Numbers.{four_of, is_numeral, number_of, two_of}
use Rattle.log_lines.proofs.Visible.{IsVisible, visible_ascii, visible_both}

digit_yes : (n : ℕ) → n < 10 → is_ascii_digit (48 + n) ≡ true
digit_yes n less = search (rules, tests)

digits_visible : (text : List ℕ) → AllDigits 10 text → AllByRecursion IsVisible text
digits_visible [] all = tt
digits_visible (x ∷ xs) all =
    let range = digit_from_value x all.0 in
    ((omega (arith, range.0), omega (arith, range.1)), digits_visible xs all.1)

pub decimal_visible : (n : ℕ) → n < 2 ^ 64 → AllByRecursion IsVisible (decimal n)
decimal_visible n fits = digits_visible (decimal n) (decimal_is_IsNumeral n fits).0.1

pub two_visible : (n : ℕ) → n < 100 → AllByRecursion IsVisible (two_digits n)
two_visible n fits = ((omega arith, omega arith), ((omega arith, omega arith), tt))

pub four_visible : (n : ℕ) → n < 10000 → AllByRecursion IsVisible (four_digits n)
four_visible n fits =
    visible_both (two_digits (n / 100)) (two_digits (n % 100)) (two_visible (n / 100) (omega arith)) (two_visible (n % 100) (omega arith))

pub two_back : (n : ℕ) → n < 100 → two_of (two_digits n) ≡ Some n
two_back n fits =
    let first = digit_yes (n / 10) (omega arith) in
    let second = digit_yes (n % 10) (omega arith) in
    let value : (48 + n / 10 - 48) * 10 + (48 + n % 10 - 48) ≡ n = omega arith in
    rw (first, second) (ap Some value)

pub four_back : (n : ℕ) → n < 10000 → four_of (four_digits n) ≡ Some n
four_back n fits =
    let front = two_back (n / 100) (omega arith) in
    let back = two_back (n % 100) (omega arith) in
    let value : n / 100 * 100 + n % 100 ≡ n = omega arith in
    rw (front, back) (ap Some value)

all_digits : (text : List ℕ) → AllDigits 10 text → list_all is_ascii_digit text ≡ true
all_digits [] all = refl
all_digits (x ∷ xs) all =
    let range = digit_from_value x all.0 in
    let yes : is_ascii_digit x ≡ true = search (rules, tests) in
    rw yes (all_digits xs all.1)

no_zero : (n : ℕ) → n < 2 ^ 64 → (nat_le (length (decimal n)) 1 || not (nat_eq (get_or (decimal n) 0 0) 48)) ≡ true
no_zero n fits = elim (cases_lt n 10) [
  | inl small ↦ rw (decimal_digit n small) refl
  | inr large ↦
      let first = first_decimal n (omega arith) fits in
      let other : nat_eq (get_or (decimal n) 0 0) 48 ≡ false = search (rules, tests) in
      rw other (or_true (nat_le (length (decimal n)) 1))
]
  where
    or_true : (b : Bool) → (b || true) ≡ true
    or_true true = refl
    or_true false = refl

pub number_back : (n : ℕ) → n < 2 ^ 64 → number_of (decimal n) ≡ Some n
number_back n fits =
    let numeral = decimal_is_IsNumeral n fits in
    let some : nat_le 1 (length (decimal n)) ≡ true = let long = numeral.0.0 in search (rules, tests) in
    let value = numeral.1 in
    let below : nat_lt (digits_value 10 (decimal n)) (2 ^ 64) ≡ true = let less = fits in search (rules, tests) in
    rw (some, no_zero n fits, all_digits (decimal n) numeral.0.1, below) (ap Some value)

visible_plain : (c : ℕ) → IsVisible c → is_plain c ≡ true
visible_plain c range = let low = range.0 in let high = range.1 in search (rules, tests)

all_plain : (text : List ℕ) → AllByRecursion IsVisible text → list_all is_plain text ≡ true
all_plain [] all = refl
all_plain (x ∷ xs) all = rw (visible_plain x all.0) (all_plain xs all.1)

pub visible_name : (text : List ℕ) → 0 < length text → AllByRecursion IsVisible text → is_name text ≡ true
visible_name text some all =
    let long : nat_le 1 (length text) ≡ true = search (rules, tests) in
    rw (long, chars-IsAscii text (visible_ascii text all)) (all_plain text all)
