-- What stands on one line.
use Rattle.std.proofs.Common.{◌≡◌, ◌≢◌, ℕ, ◌+◌, ◌/◌, ◌%◌, zero, suc, Bool, true, false, if◌then◌else◌, List, [], ◌∷◌, ◌++◌, refl, ◌∙◌, subst, arith, ◌==◌, nat_lt}
use Rattle.std.proofs.lemmas.Bool.{and_from, ne_eqb}
use Rattle.std.proofs.lemmas.List.Folds.{list_all-append}
use Rattle.std.specs.Fmt.{decimal, digits, digits_onto}
use Rattle.ftp_terms.specs.Lines.{IsLine, is_control, HasNoControl}

-- the text stands on one line; as a record, so that a lemma's texts are found from its facts
pub record IsPlain (text : List ℕ) : Type 0 where
  pub is : IsLine text

pub plain : (text : List ℕ) → IsLine text → IsPlain text
plain text line = record { is = line }

pub both : {front back : List ℕ} → IsPlain front → IsPlain back → IsPlain (front ++ back)
both {front} {back} before after = record { is = list_all-append _ front back ∙ and_from _ _ before.is after.is }

pub one : (octet : ℕ) → octet ≢ 13 → octet ≢ 10 → IsPlain (octet ∷ [])
one octet no_return no_feed = record { is = rw (ne_eqb octet 13 no_return, ne_eqb octet 10 no_feed) refl }

pub either : (first : Bool) {text other : List ℕ} → IsPlain text → IsPlain other → IsPlain (if first then text else other)
either true this that = this
either false this that = that

glyph : (small : Bool) (digit : ℕ) → IsPlain ((if small then 48 + digit else 87 + digit) ∷ [])
glyph true digit = one (48 + digit) (omega arith) (omega arith)
glyph false digit = one (87 + digit) (omega arith) (omega arith)

plain_digits : (most n : ℕ) {after : List ℕ} → IsPlain after → IsPlain (digits_onto most 10 false n after)
plain_digits zero n after = after
plain_digits (suc most) n after =
    let more = both (glyph (nat_lt (n % 10) 10) (n % 10)) after in
    either (n / 10 == 0) more (plain_digits most (n / 10) more)

-- the digits of a number
pub plain_decimal : (n : ℕ) → IsPlain (decimal n)
unfolding digits
plain_decimal n = plain_digits 64 n (plain [] refl)

no_line_end : (octet : ℕ) → is_control octet ≡ false → IsPlain (octet ∷ [])
no_line_end octet printed = one octet
    (λ is. let return : is_control 13 ≡ false = subst (λ (n : ℕ). is_control n ≡ false) is printed in cc)
    (λ is. let feed : is_control 10 ≡ false = subst (λ (n : ℕ). is_control n ≡ false) is printed in cc)

pub plain_printed : (text : List ℕ) → HasNoControl text → IsPlain text
plain_printed [] printed = plain [] refl
plain_printed (octet ∷ text) printed = both (no_line_end octet printed.0) (plain_printed text printed.1)

pub line_joined : (front back : List ℕ) → IsLine front → IsLine back → IsLine (front ++ back)
line_joined front back before after = (both (plain front before) (plain back after)).is

pub line_printed : (text : List ℕ) → HasNoControl text → IsLine text
line_printed text printed = (plain_printed text printed).is
