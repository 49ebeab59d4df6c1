-- Numbers in decimal, read again.
use Rattle.std.proofs.Common.{arith, refl, ap, ◌≡◌, ◌≢◌, ◌≤◌, ◌<◌, ◌^◌, ◌&&◌, ◌==◌, ◌++◌, ◌∷◌, [], ℕ, List, Bool, true, false, length, get_or, min, Some, nat_le, eq-eqb, ◌⊎◌, inl, inr}
use Rattle.std.specs.Fmt.{decimal}
use Rattle.std.specs.List.{All, AllByRecursion, list_all}
use Rattle.std.specs.Str.{IsAscii, all_ascii_digits, is_utf8}
use Rattle.std.proofs.lemmas.Bool.{le-leb, leb-true, ne_eqb}
use Rattle.std.proofs.lemmas.Fmt.{decimal_nonempty, digits_decimal, digits_value-decimal, length-decimal-le}
use Rattle.std.proofs.lemmas.List.Elements.{All-from_get_or}
use Rattle.std.proofs.lemmas.List.Splits.{slice_split_at, slice_split_none}
use Rattle.std.proofs.lemmas.Str.Parse.{digit_at, tells_all_ascii_digits}
use Rattle.std.proofs.lemmas.Str.{IsUtf8-from_ascii, is_utf8-from_IsUtf8}
use Rattle.std.proofs.lemmas.Str.Ascii.{IsAscii-cons, IsAscii-nil}
use Rattle.ftp_wire.specs.Arguments.{is_number, number_cut_at, number_of, number_up_to, octet_of, parts_at}
use Rattle.ftp_wire.specs.Words.{is_blank, is_printed, is_text}
use Rattle.ftp_wire.proofs.Numbers.{own}
use Rattle.ftp_wire.proofs.PlainText.{IsPlain}

-- an octet of ASCII that is printed
abbrev pub is_visible : ℕ → Bool
is_visible octet = nat_le 32 octet && nat_le octet 126

abbrev pub is_visible_text : List ℕ → Bool
is_visible_text text = list_all is_visible text

pub both : (a b : Bool) → (a && b) ≡ true → (a ≡ true) × (b ≡ true)
both true b e = (refl, e)
both false b e = cc

pub join_true : (a b : Bool) → a ≡ true → b ≡ true → (a && b) ≡ true
join_true true b p q = q
join_true false b p q = cc

pub visible-append : (a b : List ℕ) → is_visible_text a ≡ true → is_visible_text b ≡ true → is_visible_text (a ++ b) ≡ true
visible-append [] b p q = q
visible-append (x ∷ a) b p q = let (here, more) = both (is_visible x) (is_visible_text a) p in
    join_true (is_visible x) (is_visible_text (a ++ b)) here (visible-append a b more q)

within : (x : ℕ) → is_visible x ≡ true → (32 ≤ x) × (x ≤ 126)
within x e = let (low, high) = both (nat_le 32 x) (nat_le x 126) e in (leb-true _ _ low, leb-true _ _ high)

pub visible_plain : (text : List ℕ) → is_visible_text text ≡ true → AllByRecursion IsPlain text
visible_plain [] e = tt
visible_plain (x ∷ xs) e =
    let (here, more) = both (is_visible x) (is_visible_text xs) e in
    let (low, high) = within x here in
    ((λ h. omega arith, λ h. omega arith), visible_plain xs more)

visible_ascii : (text : List ℕ) → is_visible_text text ≡ true → IsAscii text
visible_ascii [] e = IsAscii-nil
visible_ascii (x ∷ xs) e =
    let (here, more) = both (is_visible x) (is_visible_text xs) e in
    let (low, high) = within x here in
    IsAscii-cons x xs (omega arith) (visible_ascii xs more)

visible_printed : (text : List ℕ) → is_visible_text text ≡ true → list_all is_printed text ≡ true
visible_printed [] e = refl
visible_printed (x ∷ xs) e =
    let (here, more) = both (is_visible x) (is_visible_text xs) e in
    let (low, high) = within x here in
    let ne : x ≢ 127 = λ h. omega arith in
    let other : (x == 127) ≡ false = ne_eqb x 127 ne in
    join_true (is_printed x) (list_all is_printed xs) (rw (le-leb 32 x low, other) refl) (visible_printed xs more)

pub visible_text : (text : List ℕ) → is_visible_text text ≡ true → is_text text ≡ true
visible_text text e =
    join_true (list_all is_printed text) (is_utf8 text) (visible_printed text e) (is_utf8-from_IsUtf8 text (IsUtf8-from_ascii text (visible_ascii text e)))

digits_visible : (text : List ℕ) → all_ascii_digits text ≡ true → is_visible_text text ≡ true
digits_visible [] e = refl
digits_visible (x ∷ xs) e =
    let (range, more) = tells_all_ascii_digits.parts x xs e in
    join_true (is_visible x) (is_visible_text xs) (rw (le-leb 32 x (omega (arith, range.0)), le-leb x 126 (omega (arith, range.1))) refl) (digits_visible xs more)

pub decimal_visible : (n : ℕ) → n < 2 ^ 64 → is_visible_text (decimal n) ≡ true
decimal_visible n h = digits_visible (decimal n) (digits_decimal own n h)

pub decimal_is_number : (n : ℕ) → n < 2 ^ 64 → is_number (decimal n) ≡ true
decimal_is_number n h =
    let some : length (decimal n) ≢ 0 = λ e. omega (arith, decimal_nonempty n h) in
    rw (ne_eqb (length (decimal n)) 0 some) (digits_decimal own n h)

pub number-decimal : (n : ℕ) → n < 2 ^ 64 → number_of (decimal n) ≡ Some n
unfolding number_of
number-decimal n h = rw (decimal_is_number n h) (ap Some (digits_value-decimal own n h))

pub up_to-decimal : (limit n : ℕ) → n ≤ limit → n < 2 ^ 64 → number_up_to limit (decimal n) ≡ Some n
unfolding number_up_to
up_to-decimal limit n le h = rw (number-decimal n h, le-leb n limit le) refl

pub cut-decimal : (limit n : ℕ) → n ≤ limit → n < 2 ^ 64 → number_cut_at limit (decimal n) ≡ Some n
unfolding number_cut_at
cut-decimal limit n le h = let same : min n limit ≡ n = omega arith in rw (number-decimal n h) (ap Some same)

pub octet-decimal : (n : ℕ) → n ≤ 255 → octet_of (decimal n) ≡ Some n
unfolding octet_of
octet-decimal n le = rw (le-leb (length (decimal n)) 3 (length-decimal-le 3 n (omega arith) (omega arith) (omega arith))) (up_to-decimal 255 n le (omega arith))

not_blank : (text : List ℕ) → 0 < length text → All (λ x. (x == 32) ≡ false) text → is_blank text ≡ false
not_blank [] some none = absurd (omega arith)
not_blank (x ∷ xs) some none = let here : (x == 32) ≡ false = none 0 0 (omega (arith, some)) in rw here refl

-- no digit is one of these octets
pub no_digit : (wanted n : ℕ) → n < 2 ^ 64 → (wanted < 48) ⊎ (57 < wanted) → All (λ x. (x == wanted) ≡ false) (decimal n)
no_digit wanted n h apart = All-from_get_or (λ x. (x == wanted) ≡ false) (decimal n) 0 (λ i l.
    let range = digit_at (decimal n) i (own.to (decimal n) (digits_decimal own n h)) l in
    ne_eqb (get_or (decimal n) i 0) wanted (λ e. elim apart [ inl low ↦ omega (arith, range.0) | inr high ↦ omega (arith, range.1) ]))

pub part-decimal : (wanted n : ℕ) (rest : List ℕ) → n < 2 ^ 64 → (wanted < 48) ⊎ (57 < wanted) → parts_at wanted (decimal n ++ wanted ∷ rest) ≡ decimal n ∷ parts_at wanted rest
part-decimal wanted n rest h apart = slice_split_at (λ x. x == wanted) (decimal n) wanted rest (no_digit wanted n h apart) (eq-eqb wanted wanted refl)

pub last-decimal : (wanted n : ℕ) → n < 2 ^ 64 → (wanted < 48) ⊎ (57 < wanted) → parts_at wanted (decimal n) ≡ decimal n ∷ []
last-decimal wanted n h apart = slice_split_none (λ x. x == wanted) (decimal n) (no_digit wanted n h apart)

-- a number is no blank
pub decimal_not_blank : (n : ℕ) → n < 2 ^ 64 → is_blank (decimal n) ≡ false
decimal_not_blank n h = not_blank (decimal n) (decimal_nonempty n h) (no_digit 32 n h (inl (omega arith)))
