-- Text of which nothing was urgent passes as it is.
use Rattle.std.proofs.Common.{◌≡◌, ℕ, ◌+◌, ◌-◌, ◌<◌, ◌≤◌, Bool, true, false, cond, not, ◌&&◌, ◌||◌, List, [], ◌∷◌, ◌++◌, sym, refl, ap, ◌∙◌, arith}
use Rattle.std.specs.Char.{to_ascii_uppercase}
use Rattle.std.specs.Prelude.{nat_eq, nat_le, nat_lt}
use Rattle.std.proofs.lemmas.Bool.{cond-true, cond-false, eqb-true, eq-eqb, ne_eqb, leb-true, ltb-false, and_parts}
use Rattle.line_mender.specs.Mended.{Met, Octet, Silence, Open, at_start, letter_at, line_after, after, is_stray, kept_of, mended}
use Rattle.line_mender.specs.Laws.{octets_of, StartsWithLf, IsText, PassesText}

pub calm : (late lf mark begins iac : Bool) → (late ≡ true → lf ≡ false) → (begins ≡ true → mark ≡ false) → ((late && lf) || (mark && begins && iac)) ≡ false
calm true true mark begins iac h k = absurd (let e : true ≡ false = h refl in cc)
calm true false false begins iac h k = refl
calm true false true false iac h k = refl
calm true false true true iac h k = absurd (let e : true ≡ false = k refl in cc)
calm false lf false begins iac h k = refl
calm false lf true false iac h k = refl
calm false lf true true iac h k = absurd (let e : true ≡ false = k refl in cc)

pub passed : (known : Open) (o : ℕ) → (known.is_late ≡ true → nat_eq o 10 ≡ false) → (known.line ≡ 0 → nat_eq o 242 ≡ false) → kept_of known o ≡ o ∷ []
passed known o h k =
    cond-false (is_stray known o) [] (o ∷ [])
    (calm known.is_late (nat_eq o 10) (nat_eq o 242) (nat_eq known.line 0) (not known.behind_iac) h (λ e. k (eqb-true known.line 0 e)))

-- an octet that is read as this one
pub upper-13 : (o : ℕ) → to_ascii_uppercase o ≡ 13 → o ≡ 13
upper-13 o e = go (nat_lt o 97) (nat_lt o 123) refl refl e
  where
    go : (a b : Bool) → nat_lt o 97 ≡ a → nat_lt o 123 ≡ b → cond a o (cond b (o - 32) o) ≡ 13 → o ≡ 13
    go true b f g h = h
    go false true f g h = absurd (let k : 97 ≤ o = ltb-false o 97 f in omega (arith, h))
    go false false f g h = h

-- after an octet a line begins only behind LF
zero_after : (n o : ℕ) → (n ≡ 0 → o < 128) → line_after n o ≡ 0 → nat_eq o 10 ≡ true
zero_after n o small e = go (nat_eq o 10) (nat_le 128 o) (nat_lt n 5 && nat_eq (to_ascii_uppercase o) (letter_at n)) refl refl e
  where
    go : (a b c : Bool) → nat_eq o 10 ≡ a → nat_le 128 o ≡ b → cond a 0 (cond b n (cond c (n + 1) 6)) ≡ 0 → nat_eq o 10 ≡ true
    go true b c f g e = f
    go false true c f g e = absurd (let h : o < 128 = small e in let k : 128 ≤ o = leb-true 128 o g in omega arith)
    go false false true f g e = absurd (omega (arith, e))
    go false false false f g e = absurd (omega (arith, e))

-- the open line is ABOR CR only behind CR
five_after : (n o : ℕ) → (n ≡ 5 → o ≡ 10) → line_after n o ≡ 5 → o ≡ 13
five_after n o ends e = go (nat_eq o 10) (nat_le 128 o) (nat_lt n 5 && nat_eq (to_ascii_uppercase o) (letter_at n)) refl refl refl e
  where
    go : (a b c : Bool) → nat_eq o 10 ≡ a → nat_le 128 o ≡ b → (nat_lt n 5 && nat_eq (to_ascii_uppercase o) (letter_at n)) ≡ c → cond a 0 (cond b n (cond c (n + 1) 6)) ≡ 5 → o ≡ 13
    go true b c f g h e = absurd (omega (arith, e))
    go false true c f g h e = absurd (let k : 128 ≤ o = leb-true 128 o g in let l : o ≡ 10 = ends e in omega arith)
    go false false true f g h e =
        let four : n ≡ 4 = omega (arith, e) in
        let same : to_ascii_uppercase o ≡ letter_at n = eqb-true (to_ascii_uppercase o) (letter_at n) (and_parts (nat_lt n 5) (nat_eq (to_ascii_uppercase o) (letter_at n)) h).1 in
        upper-13 o (same ∙ ap letter_at four)
    go false false false f g h e = absurd (omega (arith, e))

parts : (begins : Bool) (o : ℕ) (os : List ℕ) → IsText begins (o ∷ os) → (begins ≡ true → o < 128) × (o ≡ 13 → StartsWithLf os) × IsText (nat_eq o 10) os
parts true o os h = ((λ e. h.0), h.1, h.2)
parts false o os h = ((λ e. absurd (cc)), h.0, h.1)

no_mark : (o : ℕ) → o < 128 → nat_eq o 242 ≡ false
no_mark o h = ne_eqb o 242 (λ e. let f : o ≡ 242 = e in omega arith)

-- from where no LF is awaited, and from where the LF of a line that a silence ended is
abbrev Passes : List Met → Type 0
Passes all = (begins : Bool) (known : Open) → known.is_late ≡ false → (known.line ≡ 0 → begins ≡ true) → (known.line ≡ 5 → StartsWithLf (octets_of all)) → IsText begins (octets_of all)
    → mended known all ≡ octets_of all

abbrev ended : Open → Open
ended known = record { line = 0; behind_iac = known.behind_iac; is_late = true }

abbrev PassesLate : List Met → Type 0
PassesLate all = (begins : Bool) (known : Open) → known.is_late ≡ true → known.line ≡ 0 → StartsWithLf (octets_of all) → IsText begins (octets_of all)
    → 10 ∷ mended known all ≡ octets_of all

octet_passes : (o : ℕ) (all : List Met) → Passes all × PassesLate all → Passes (Octet o ∷ all) × PassesLate (Octet o ∷ all)
octet_passes o all rest = (usual, late)
  where
    usual : Passes (Octet o ∷ all)
    usual begins known fresh start cut text =
        let p = parts begins o (octets_of all) text in
        let small : known.line ≡ 0 → o < 128 = λ e. p.0 (start e) in
        let keeps : kept_of known o ≡ o ∷ [] = passed known o (λ e. absurd (let f : true ≡ false = sym e ∙ fresh in cc)) (λ e. no_mark o (small e)) in
        ap (λ (front : List ℕ). front ++ mended (after known o) all) keeps
        ∙ ap (λ (more : List ℕ). o ∷ more) (rest.0 (nat_eq o 10) (after known o) refl (zero_after known.line o small) (λ e. p.1 (five_after known.line o cut e)) p.2)

    late : PassesLate (Octet o ∷ all)
    late begins known is start lf text =
        let p = parts begins o (octets_of all) text in
        let ten : nat_eq o 10 ≡ true = eq-eqb o 10 lf in
        let stray : is_stray known o ≡ true = both_true known.is_late (nat_eq o 10) (nat_eq o 242 && nat_eq known.line 0 && not known.behind_iac) is ten in
        let none : kept_of known o ≡ [] = cond-true (is_stray known o) [] (o ∷ []) stray in
        let next : line_after known.line o ≡ 0 = cond-true (nat_eq o 10) 0 (cond (nat_le 128 o) known.line (cond (nat_lt known.line 5 && nat_eq (to_ascii_uppercase o) (letter_at known.line)) (known.line + 1) 6)) ten in
        ap (λ (front : List ℕ). 10 ∷ (front ++ mended (after known o) all)) none
        ∙ (ap (λ (x : ℕ). x ∷ mended (after known o) all) (sym lf)
        ∙ ap (λ (more : List ℕ). o ∷ more) (rest.0 (nat_eq o 10) (after known o) refl (λ e. ten) (λ e. absurd (let f : line_after known.line o ≡ 5 = e in omega (arith, f, next))) p.2))
      where
        both_true : (a b c : Bool) → a ≡ true → b ≡ true → ((a && b) || c) ≡ true
        both_true true true c e f = refl
        both_true true false c e f = absurd (cc)
        both_true false b c e f = absurd (cc)

silence_passes : (all : List Met) → Passes all × PassesLate all → Passes (Silence ∷ all) × PassesLate (Silence ∷ all)
silence_passes all rest = (usual, late)
  where
    usual : Passes (Silence ∷ all)
    usual begins known fresh start cut text = go (nat_eq known.line 5) refl
      where
        go : (b : Bool) → nat_eq known.line 5 ≡ b → cond b (10 ∷ []) [] ++ mended (cond b (ended known) known) all ≡ octets_of all
        go true e = rest.1 begins (ended known) refl refl (cut (eqb-true known.line 5 e)) text
        go false e = rest.0 begins known fresh start cut text

    late : PassesLate (Silence ∷ all)
    late begins known is start lf text = go (nat_eq known.line 5) refl
      where
        go : (b : Bool) → nat_eq known.line 5 ≡ b → 10 ∷ (cond b (10 ∷ []) [] ++ mended (cond b (ended known) known) all) ≡ octets_of all
        go true e = absurd (let f : known.line ≡ 5 = eqb-true known.line 5 e in omega (arith, f, start))
        go false e = rest.1 begins known is start lf text

both : (all : List Met) → Passes all × PassesLate all
both [] = ((λ begins known a b c d. refl), (λ begins known a b c d. absurd c))
both (Octet o ∷ all) = octet_passes o all (both all)
both (Silence ∷ all) = silence_passes all (both all)

pub from_line : (known : Open) (all : List Met) → known.is_late ≡ false → known.line ≡ 0 → IsText true (octets_of all) → mended known all ≡ octets_of all
from_line known all fresh start text = (both all).0 true known fresh (λ e. refl) (λ e. absurd (let f : known.line ≡ 5 = e in omega (arith, f, start))) text

pub passes_text : PassesText
passes_text all text = from_line at_start all refl refl text
