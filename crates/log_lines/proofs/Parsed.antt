-- What `parse` and `from_utf8` give.
use Rattle.std.proofs.Common.{◌≡◌, ◌<◌, ◌≤◌, ◌^◌, ◌&&◌, ◌||◌, ◌∙◌, ℕ, Bool, true, false, not, cond, nat_eq, nat_le, nat_lt, List, [], ◌∷◌, length, refl, sym, ap, rules, arith, tests, get_or, Option, Some, None, Result, Ok, Err}
use Rattle.std.specs.Char.{is_ascii_digit}
use Rattle.std.specs.List.{list_all}
use Rattle.std.specs.Result.{OkIff, result_ok}
use Rattle.std.specs.Str.{IsUtf8, is_utf8}
use Rattle.std.specs.Str.Parse.{ParsesUnsigned, digits_value}
use Rattle.std.proofs.lemmas.Str.{IsUtf8-from_is_utf8, is_utf8-from_IsUtf8}
use Rattle.std.proofs.lemmas.Str.Parse.{IsDigitsTest, IsNumeralModel, numerals_by_value, parse_digits}
use Rattle.log_lines.specs.Lines.{Line, line_of, line_of_words}
use Rattle.log_lines.specs.Numbers.{is_numeral, number_of}
use Rattle.log_lines.specs.Words.{parts}

abbrev are_digits : List ℕ → Type 0
are_digits ds = list_all is_ascii_digit ds ≡ true

all_test : IsDigitsTest (λ ds. list_all is_ascii_digit ds ≡ true)
all_test = search rules

own : IsNumeralModel (λ ds. list_all is_ascii_digit ds ≡ true) (digits_value 10)
own = numerals_by_value _ all_test

second_true : (a b : Bool) → (a && b) ≡ true → b ≡ true
second_true true b e = e
second_true false b e = absurd (let no : false ≡ true = e in cc)

digits_in : (word : List ℕ) → is_numeral word ≡ true → list_all is_ascii_digit word ≡ true
digits_in word e =
    second_true (nat_le 1 (length word) && (nat_le (length word) 1 || not (nat_eq (get_or word 0 0) 48)))
    (list_all is_ascii_digit word) e

chosen : (a b : Bool) (v : ℕ) → a ≡ true → b ≡ true → Some v ≡ cond (a && b) (Some v) None
chosen a b v one other = rw (one, other) refl

not_chosen : (a b : Bool) (v : ℕ) → a ≡ true → b ≡ false → None ≡ cond (a && b) (Some v) None
not_chosen a b v one other = rw (one, other) refl

not_below : (v : ℕ) (word : List ℕ) → 0 < length word → ((0 < length word) × (v < 2 ^ 64) → ⊥) → nat_lt v (2 ^ 64) ≡ false
not_below v word some never = go (nat_lt v (2 ^ 64)) refl
  where
    go : (b : Bool) → nat_lt v (2 ^ 64) ≡ b → nat_lt v (2 ^ 64) ≡ false
    go false e = e
    go true e = let less : v < 2 ^ 64 = search (rules, tests) in absurd (never (some, less))

some_digits : (word : List ℕ) → is_numeral word ≡ true → 0 < length word
some_digits [] e = absurd (let no : false ≡ true = e in cc)
some_digits (x ∷ xs) e = omega arith

pub number_read : {E : Type 0} (word : List ℕ) (r : Result ℕ E) → ParsesUnsigned 64 10 word r → is_numeral word ≡ true → result_ok r ≡ number_of word
number_read word r parsed numeral = go r (parse_digits own 64 word r parsed (digits_in word numeral))
  where
    go : {E : Type 0} (q : Result ℕ E) → OkIff q ((0 < length word) × (digits_value 10 word < 2 ^ 64)) (digits_value 10 word) → result_ok q ≡ number_of word
    go (Ok x) h =
        let below : nat_lt (digits_value 10 word) (2 ^ 64) ≡ true = let less = h.0.1 in search (rules, tests) in
        ap Some h.1 ∙ chosen (is_numeral word) (nat_lt (digits_value 10 word) (2 ^ 64)) (digits_value 10 word) numeral below
    go (Err e) h =
        not_chosen (is_numeral word) (nat_lt (digits_value 10 word) (2 ^ 64)) (digits_value 10 word) numeral
        (not_below (digits_value 10 word) word (some_digits word numeral) h)

pub text_read : (line text : List ℕ) (o : Option Line) → o ≡ line_of_words (parts 32 text) → text ≡ line → IsUtf8 line → o ≡ line_of line
text_read line text o e same fine =
    e ∙ ap (λ (t : List ℕ). line_of_words (parts 32 t)) same
    ∙ sym (ap (λ (b : Bool). cond b (line_of_words (parts 32 line)) None) (is_utf8-from_IsUtf8 line fine))

pub not_read : (line : List ℕ) → (IsUtf8 line → ⊥) → None ≡ line_of line
not_read line bad = go (is_utf8 line) refl
  where
    go : (b : Bool) → is_utf8 line ≡ b → None ≡ line_of line
    go true e = absurd (bad (IsUtf8-from_is_utf8 line e))
    go false e = sym (ap (λ (b : Bool). cond b (line_of_words (parts 32 line)) None) e)
