-- A text has no octet 255, and no end of a line.
use Rattle.std.proofs.Common.{arith, refl, subst, ◌≡◌, ◌≢◌, ◌<◌, ◌≤◌, ◌+◌, ◌/◌, ◌%◌, ◌++◌, ◌∷◌, inl, inr, [], ℕ, List, Bool, true, false, cond, ltb, nat_le, not, ◌==◌}
use Rattle.std.specs.List.{AllByRecursion, list_all}
use Rattle.std.specs.Str.{IsUtf8, is_utf8}
use Rattle.std.proofs.Math.Utf8.{encode, encodes, scalar, scalar_cases, scalars}
use Rattle.std.proofs.lemmas.Bool.{leb-true, ltb-true}
use Rattle.std.proofs.lemmas.Str.{IsUtf8-from_is_utf8}
use Rattle.ftp_wire.specs.Words.{is_printed, is_text}
use Rattle.ftp_wire.proofs.Decimals.{both}
use Rattle.ftp_wire.proofs.PlainText.{IsPlain}

abbrev IsOther : ℕ → Type 0
IsOther octet = octet ≢ 255

pub join_all : (P : ℕ → Type 0) (a b : List ℕ) → AllByRecursion P a → AllByRecursion P b → AllByRecursion P (a ++ b)
join_all P [] b p q = q
join_all P (x ∷ a) b p q = (p.0, join_all P a b p.1 q)

by_size : (a b d : Bool) (c : ℕ) → c < 1114112 → (a ≡ true → c < 128) → (b ≡ true → c < 2048) → (d ≡ true → c < 65536)
    → AllByRecursion IsOther (cond a (c ∷ []) (cond b ((192 + c / 64) ∷ (128 + c % 64) ∷ []) (cond d ((224 + c / 4096) ∷ (128 + c / 64 % 64) ∷ (128 + c % 64) ∷ []) ((240 + c / 262144) ∷ (128 + c / 4096 % 64) ∷ (128 + c / 64 % 64) ∷ (128 + c % 64) ∷ []))))
by_size true b d c small f g h = (λ e. omega (arith, f refl), tt)
by_size false true d c small f g h = (λ e. omega (arith, g refl), (λ e. omega arith, tt))
by_size false false true c small f g h = (λ e. omega (arith, h refl), (λ e. omega arith, (λ e. omega arith, tt)))
by_size false false false c small f g h = (λ e. omega arith, (λ e. omega arith, (λ e. omega arith, (λ e. omega arith, tt))))

encoded : (c : ℕ) → scalar c ≡ true → AllByRecursion IsOther (encode c)
unfolding encode
encoded c e =
    let small : c < 1114112 = elim (scalar_cases c e) [ inl h ↦ omega arith | inr h ↦ h.1 ] in
    by_size (ltb c 128) (ltb c 2048) (ltb c 65536) c small (ltb-true c 128) (ltb-true c 2048) (ltb-true c 65536)

all_encoded : (cs : List ℕ) → scalars cs ≡ true → AllByRecursion IsOther (encodes cs)
all_encoded [] e = tt
all_encoded (c ∷ cs) e = let (here, more) = both (scalar c) (scalars cs) e in join_all IsOther (encode c) (encodes cs) (encoded c here) (all_encoded cs more)

other_octets : (text : List ℕ) → IsUtf8 text → AllByRecursion IsOther text
other_octets text u = subst (AllByRecursion IsOther) u.1.1 (all_encoded u.0 u.1.0)

zip_plain : (text : List ℕ) → list_all is_printed text ≡ true → AllByRecursion IsOther text → AllByRecursion IsPlain text
zip_plain [] e h = tt
zip_plain (x ∷ xs) e h =
    let (here, more) = both (is_printed x) (list_all is_printed xs) e in
    let low : 32 ≤ x = leb-true 32 x (both (nat_le 32 x) (not (x == 127)) here).0 in
    ((h.0, λ same. omega arith), zip_plain xs more h.1)

pub text_plain : (text : List ℕ) → is_text text ≡ true → AllByRecursion IsPlain text
text_plain text e =
    let (printed, utf8) = both (list_all is_printed text) (is_utf8 text) e in
    zip_plain text printed (other_octets text (IsUtf8-from_is_utf8 text utf8))
