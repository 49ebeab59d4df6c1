-- Names as the log has them.
use Rattle.std.proofs.Common.{◌≡◌, ◌≢◌, ◌∙◌, ℕ, zero, suc, ◌==◌, ◌<◌, ◌≤◌, ◌+◌, ◌&&◌, ◌||◌, Bool, true, false, cond, List, [], ◌∷◌, ◌++◌, map, refl, ap, sym, subst, rules, arith, tests, length, get_or, eq-eqb}
use Rattle.std.specs.Char.{encode_utf8, is_control, is_whitespace}
use Rattle.std.specs.List.{AllByRecursion, flat_map, list_all}
use Rattle.std.specs.Str.{IsUtf8, chars, encode_utf8_all, all_scalars}
use Rattle.std.proofs.Math.Utf8.{scalar}
use Rattle.std.proofs.lemmas.List.{length-append}
use Rattle.std.proofs.lemmas.Str.{IsUtf8-from_ascii, chars_from_encodes, encode_ascii, encodes-chars, inside_one, length-encode, len_utf8_bounds, scalars-chars}
use Rattle.transfer_log.specs.Names.{field_text, is_format, plain, plain_text}
use Rattle.log_lines.specs.Names.{is_name, is_plain}
use Rattle.log_lines.proofs.Cuts.{by_place}
use Rattle.log_lines.proofs.Joined.{IsInner, IsWord}
use Rattle.log_lines.proofs.Numerals.{visible_name}
use Rattle.log_lines.proofs.Visible.{visible_word}

-- a text that is read as a name
pub record IsNameText (text : List ℕ) : Type 0 where
  pub word : IsWord text
  pub name : is_name text ≡ true

-- whether a character is replaced
abbrev replaced : ℕ → Bool
replaced c = is_whitespace c || is_control c || is_format c

by_both : {P : Type 0} (b : Bool) → (b ≡ true → P) → (b ≡ false → P) → P
by_both true one other = one refl
by_both false one other = other refl

plain_replaced : (c : ℕ) → replaced c ≡ true → plain c ≡ 95
plain_replaced c e = ap (λ (b : Bool). cond b 95 c) e

plain_kept : (c : ℕ) → replaced c ≡ false → plain c ≡ c
plain_kept c e = ap (λ (b : Bool). cond b 95 c) e

-- a plain character stays
plain_stays : (c : ℕ) → is_plain (plain c) ≡ true
plain_stays c = by_both (replaced c)
    (λ yes. subst (λ (n : ℕ). is_plain n ≡ true) (sym (plain_replaced c yes)) refl)
    (λ no. eq-eqb (plain (plain c)) (plain c) (ap plain (plain_kept c no)))

-- and is no blank
plain_inner : (c : ℕ) → plain c ≢ 32
plain_inner c is = by_both (replaced c)
    (λ yes. let e : 95 ≡ 32 = sym (plain_replaced c yes) ∙ is in omega arith)
    (λ no.
    let same : c ≡ 32 = sym (plain_kept c no) ∙ is in
    let blank : true ≡ false = subst (λ (n : ℕ). replaced n ≡ false) same no in
    cc)

plain_scalar : (c : ℕ) → scalar c ≡ true → scalar (plain c) ≡ true
plain_scalar c fine = by_both (replaced c)
    (λ yes. subst (λ (n : ℕ). scalar n ≡ true) (sym (plain_replaced c yes)) refl)
    (λ no. subst (λ (n : ℕ). scalar n ≡ true) (sym (plain_kept c no)) fine)

both_true : (a b : Bool) → (a && b) ≡ true → (a ≡ true) × (b ≡ true)
both_true true b e = (refl, e)
both_true false b e = (e, absurd (let no : false ≡ true = e in cc))

and_true : (a b : Bool) → a ≡ true → b ≡ true → (a && b) ≡ true
and_true true b one other = other
and_true false b one other = one

plain_scalars : (cs : List ℕ) → all_scalars cs ≡ true → all_scalars (map plain cs) ≡ true
plain_scalars [] fine = refl
plain_scalars (c ∷ cs) fine =
    let parts = both_true (scalar c) (all_scalars cs) fine in
    and_true (scalar (plain c)) (all_scalars (map plain cs)) (plain_scalar c parts.0) (plain_scalars cs parts.1)

encode_inner : (c : ℕ) → c ≢ 32 → AllByRecursion IsInner (encode_utf8 c)
encode_inner c other =
    by_place 32 (encode_utf8 c)
    (λ i less is. other (inside_one c [] (encode_utf8 c) i (sym (append_nil (encode_utf8 c))) less (omega (arith, is)) ∙ is))
  where
    append_nil : (xs : List ℕ) → xs ++ [] ≡ xs
    append_nil [] = refl
    append_nil (x ∷ xs) = ap (λ (more : List ℕ). x ∷ more) (append_nil xs)

inner_both : (xs ys : List ℕ) → AllByRecursion IsInner xs → AllByRecursion IsInner ys → AllByRecursion IsInner (xs ++ ys)
inner_both [] ys one other = other
inner_both (x ∷ xs) ys one other = (one.0, inner_both xs ys one.1 other)

-- the plain characters of a list
abbrev written : List ℕ → List ℕ
written cs = flat_map (λ character. encode_utf8 (plain character)) cs

written_inner : (cs : List ℕ) → AllByRecursion IsInner (written cs)
written_inner [] = tt
written_inner (c ∷ cs) =
    inner_both (encode_utf8 (plain c)) (written cs) (encode_inner (plain c) (plain_inner c)) (written_inner cs)

written_encodes : (cs : List ℕ) → encode_utf8_all (map plain cs) ≡ written cs
written_encodes [] = refl
written_encodes (c ∷ cs) = ap (λ (more : List ℕ). encode_utf8 (plain c) ++ more) (written_encodes cs)

all_plain : (cs : List ℕ) → list_all is_plain (map plain cs) ≡ true
all_plain [] = refl
all_plain (c ∷ cs) = and_true (is_plain (plain c)) (list_all is_plain (map plain cs)) (plain_stays c) (all_plain cs)

written_utf8 : (cs : List ℕ) → all_scalars cs ≡ true → IsUtf8 (written cs)
written_utf8 cs fine = (map plain cs, (plain_scalars cs fine, written_encodes cs))

written_long : (cs : List ℕ) → 0 < length cs → 0 < length (written cs)
written_long [] some = absurd (omega arith)
written_long (c ∷ cs) some =
    let bounds = len_utf8_bounds (plain c) in
    let one : 1 ≤ length (encode_utf8 (plain c)) = subst (λ (n : ℕ). 1 ≤ n) (sym (length-encode (plain c))) bounds.0 in
    omega (arith, length-append (encode_utf8 (plain c)) (written cs))

written_name : (cs : List ℕ) → all_scalars cs ≡ true → 0 < length cs → is_name (written cs) ≡ true
written_name cs fine some =
    let same : map plain cs ≡ chars (written cs) = chars_from_encodes (map plain cs) (written cs) (written_utf8 cs fine) (written_encodes cs) in
    let long = written_long cs some in
    and_true _ _ (search (rules, tests)) (subst (λ (ds : List ℕ). list_all is_plain ds ≡ true) same (all_plain cs))

some_chars : (octet : ℕ) (octets : List ℕ) → IsUtf8 (octet ∷ octets) → 0 < length (chars (octet ∷ octets))
some_chars octet octets fine = go (chars (octet ∷ octets)) (encodes-chars (octet ∷ octets) fine)
  where
    go : (cs : List ℕ) → encode_utf8_all cs ≡ octet ∷ octets → 0 < length cs
    go [] e = absurd (let no : 0 ≡ suc (length octets) = ap length e in omega arith)
    go (c ∷ cs) e = omega arith

-- a field of a name
pub field_name : (text : List ℕ) → IsUtf8 text → IsNameText (field_text text)
field_name [] fine = record {
  word = visible_word (95 ∷ []) ((omega arith, omega arith), tt);
  name = visible_name (95 ∷ []) (omega arith) ((omega arith, omega arith), tt);
}
field_name (octet ∷ octets) fine =
    let cs = chars (octet ∷ octets) in
    let scalars = scalars-chars (octet ∷ octets) fine in
    record {
      word = record { utf8 = written_utf8 cs scalars; inner = written_inner cs };
      name = written_name cs scalars (some_chars octet octets fine);
    }
