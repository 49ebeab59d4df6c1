-- What urgent data took.
use Rattle.std.proofs.Common.{◌≡◌, ℕ, ◌+◌, ◌-◌, ◌<◌, ◌≤◌, Bool, true, false, cond, ◌&&◌, List, [], ◌∷◌, ◌++◌, map, drop, get_or, sym, refl, ap, ◌∙◌, arith}
use Rattle.std.specs.Char.{to_ascii_uppercase}
use Rattle.std.specs.Prelude.{nat_eq, nat_le, nat_lt}
use Rattle.std.proofs.lemmas.Bool.{cond-true, cond-false, eq-eqb, ne_eqb, lt-leb, lt-ltb, ltb-true, ltb-false, and_from}
use Rattle.line_mender.specs.Mended.{Met, Octet, Silence, Open, letter_at, line_after, after, kept_of, mended}
use Rattle.line_mender.specs.Laws.{octets_of, IsText, EndsAborts, TakesMarksOut}
use Rattle.line_mender.proofs.Passing.{passed, from_line}

abbrev at : ℕ → Bool → Bool → Open
at line iac late = record { line = line; behind_iac = iac; is_late = late }

marks : (iac late : Bool) (all : List Met) → IsText true (octets_of all) → mended (at 0 iac late) (Octet 255 ∷ Octet 244 ∷ Octet 242 ∷ all) ≡ 255 ∷ 244 ∷ octets_of all
marks iac true all text = ap (λ (more : List ℕ). 255 ∷ 244 ∷ more) (from_line (at 0 false false) all refl refl text)
marks iac false all text = ap (λ (more : List ℕ). 255 ∷ 244 ∷ more) (from_line (at 0 false false) all refl refl text)

same_open : (known : Open) (line : ℕ) → known.line ≡ line → known ≡ at line known.behind_iac known.is_late
same_open known line e = ap (λ (n : ℕ). at n known.behind_iac known.is_late) e

pub takes_marks_out : TakesMarksOut
takes_marks_out known all start text =
    ap (λ (k : Open). mended k (Octet 255 ∷ Octet 244 ∷ Octet 242 ∷ all)) (same_open known 0 start) ∙ marks known.behind_iac known.is_late all text

-- each octet of ABOR CR is above 10, and no small letter
letter_range : (n : ℕ) → (10 < letter_at n) × (letter_at n < 97)
letter_range n = go (nat_eq n 0) (nat_eq n 1) (nat_eq n 2) (nat_eq n 3)
  where
    go : (a b c d : Bool) → (10 < cond a 65 (cond b 66 (cond c 79 (cond d 82 13)))) × (cond a 65 (cond b 66 (cond c 79 (cond d 82 13))) < 97)
    go true b c d = (omega arith, omega arith)
    go false true c d = (omega arith, omega arith)
    go false false true d = (omega arith, omega arith)
    go false false false true = (omega arith, omega arith)
    go false false false false = (omega arith, omega arith)

octet_range : (o l : ℕ) → to_ascii_uppercase o ≡ l → 10 < l → l < 97 → (10 < o) × (o < 128)
octet_range o l e low high = go (nat_lt o 97) (nat_lt o 123) refl refl e
  where
    go : (a b : Bool) → nat_lt o 97 ≡ a → nat_lt o 123 ≡ b → cond a o (cond b (o - 32) o) ≡ l → (10 < o) × (o < 128)
    go true b f g h = let k : o < 97 = ltb-true o 97 f in (omega (arith, h), omega arith)
    go false true f g h = let k : 97 ≤ o = ltb-false o 97 f in let m : o < 123 = ltb-true o 123 g in (omega arith, omega arith)
    go false false f g h = absurd (let k : 123 ≤ o = ltb-false o 123 g in omega (arith, h))

-- the next octet of ABOR CR
one_more : (known : Open) (n o : ℕ) → known.line ≡ n → n < 5 → to_ascii_uppercase o ≡ letter_at n → (kept_of known o ≡ o ∷ []) × ((after known o).line ≡ n + 1)
one_more known n o e few same =
    let low : 10 < o = (octet_range o (letter_at n) same (letter_range n).0 (letter_range n).1).0 in
    let high : o < 128 = (octet_range o (letter_at n) same (letter_range n).0 (letter_range n).1).1 in
    let no_lf : nat_eq o 10 ≡ false = ne_eqb o 10 (λ f. let g : o ≡ 10 = f in omega arith) in
    let no_mark : nat_eq o 242 ≡ false = ne_eqb o 242 (λ f. let g : o ≡ 242 = f in omega arith) in
    let small : nat_le 128 o ≡ false = lt-leb 128 o high in
    let next : (nat_lt n 5 && nat_eq (to_ascii_uppercase o) (letter_at n)) ≡ true = and_from (nat_lt n 5) (nat_eq (to_ascii_uppercase o) (letter_at n)) (lt-ltb n 5 few) (eq-eqb (to_ascii_uppercase o) (letter_at n) same) in (
      passed known o (λ f. no_lf) (λ f. no_mark),
      ap (λ (m : ℕ). line_after m o) e ∙ steps (nat_eq o 10) (nat_le 128 o) (nat_lt n 5 && nat_eq (to_ascii_uppercase o) (letter_at n)) no_lf small next,
    )
  where
    steps : (a b c : Bool) → a ≡ false → b ≡ false → c ≡ true → cond a 0 (cond b n (cond c (n + 1) 6)) ≡ n + 1
    steps a b c f g h = cond-false a 0 (cond b n (cond c (n + 1) 6)) f ∙ (cond-false b n (cond c (n + 1) 6) g ∙ cond-true c (n + 1) 6 h)

-- these are the octets of ABOR CR from a place on
abbrev AreLetters : ℕ → List ℕ → Type 0
AreLetters n [] = n ≡ 5
AreLetters n (l ∷ ls) = (n < 5) × (letter_at n ≡ l) × AreLetters (n + 1) ls

ends : (ls : List ℕ) (n : ℕ) (known : Open) (os : List ℕ) → known.line ≡ n → AreLetters n ls → map to_ascii_uppercase os ≡ ls → mended known (map Octet os ++ Silence ∷ []) ≡ os ++ 10 ∷ []
ends [] n known [] e are same =
    let cut : nat_eq known.line 5 ≡ true = eq-eqb known.line 5 (e ∙ are) in
    ap (λ (b : Bool). cond b (10 ∷ []) [] ++ []) cut
ends [] n known (o ∷ os) e are same = absurd (cc)
ends (l ∷ ls) n known [] e are same = absurd (cc)
ends (l ∷ ls) n known (o ∷ os) e are same =
    let head : to_ascii_uppercase o ≡ l = ap (λ (xs : List ℕ). get_or xs 0 0) same in
    let rest : map to_ascii_uppercase os ≡ ls = ap (drop 1) same in
    let step = one_more known n o e are.0 (head ∙ sym are.1) in
    ap (λ (front : List ℕ). front ++ mended (after known o) (map Octet os ++ Silence ∷ [])) step.0
    ∙ ap (λ (more : List ℕ). o ∷ more) (ends ls (n + 1) (after known o) os step.1 are.2 rest)

pub ends_aborts : EndsAborts
ends_aborts known abort start is =
    ends (65 ∷ 66 ∷ 79 ∷ 82 ∷ 13 ∷ []) 0 known abort start (omega arith, refl, (omega arith, refl, (omega arith, refl, (omega arith, refl, (omega arith, refl, refl))))) is
