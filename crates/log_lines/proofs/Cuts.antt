-- Where a text is cut.
use Rattle.std.proofs.Common.{◌≡◌, ◌≢◌, ◌∙◌, ℕ, suc, ◌==◌, ◌<◌, ◌+◌, Bool, true, false, List, [], ◌∷◌, ◌++◌, Option, Some, None, Bor, length, get_or, refl, sym, ap, subst, eq-eqb, rules, arith, tests}
use Rattle.std.specs.List.{AllByRecursion, onto_first}
use Rattle.std.proofs.lemmas.List.Splits.{length-slice_split, slice_split-cons_no, slice_split-cons_yes}
use Rattle.std.proofs.lemmas.Option.{same_Some}
use Rattle.std.proofs.lemmas.Str.Pattern.{IsSplitOnceResult, split_parts}
use Rattle.log_lines.specs.Words.{parts, words_left}

-- an octet that is not the mark
abbrev pub IsOther : ℕ → ℕ → Type 0
IsOther mark octet = (octet == mark) ≡ false

not_equal : (x y : ℕ) → x ≢ y → (x == y) ≡ false
not_equal x y other = search (rules, tests)

-- octets by their places
pub by_place : (mark : ℕ) (text : List ℕ) → ((i : ℕ) → i < length text → get_or text i 0 ≢ mark) → AllByRecursion (IsOther mark) text
by_place mark [] none = tt
by_place mark (x ∷ xs) none =
    (not_equal x mark (none 0 (omega arith)), by_place mark xs (λ i less. none (suc i) (omega arith)))

pub cut_word : (mark : ℕ) (word rest : List ℕ) → AllByRecursion (IsOther mark) word → parts mark (word ++ mark ∷ rest) ≡ word ∷ parts mark rest
cut_word mark [] rest other = slice_split-cons_yes (λ octet. octet == mark) mark rest (eq-eqb mark mark refl)
cut_word mark (x ∷ xs) rest other =
    slice_split-cons_no (λ octet. octet == mark) x (xs ++ mark ∷ rest) other.0
    ∙ ap (onto_first x) (cut_word mark xs rest other.1)

pub last_word : (mark : ℕ) (word : List ℕ) → AllByRecursion (IsOther mark) word → parts mark word ≡ word ∷ []
last_word mark [] other = refl
last_word mark (x ∷ xs) other =
    slice_split-cons_no (λ octet. octet == mark) x xs other.0 ∙ ap (onto_first x) (last_word mark xs other.1)

-- what `split_once` gives, as parts
pub cut_some : (mark : ℕ) (text : List ℕ) (r : Option (Bor (List ℕ) × Bor (List ℕ))) (first rest : Bor (List ℕ))
    → IsSplitOnceResult mark text r → mark < 128 → r ≡ Some (first, rest) → parts mark text ≡ first.now ∷ parts mark rest.now
cut_some mark text r first rest found low is =
    let h = subst (λ (o : Option (Bor (List ℕ) × Bor (List ℕ))). IsSplitOnceResult mark text o) is found in
    let split = split_parts mark text (Some (first, rest)) h low in
    ap (parts mark) split.0 ∙ cut_word mark first.now rest.now (by_place mark first.now split.1)

pub cut_none : (mark : ℕ) (text : List ℕ) (r : Option (Bor (List ℕ) × Bor (List ℕ)))
    → IsSplitOnceResult mark text r → mark < 128 → r ≡ None → parts mark text ≡ text ∷ []
cut_none mark text r found low is =
    let h = subst (λ (o : Option (Bor (List ℕ) × Bor (List ℕ))). IsSplitOnceResult mark text o) is found in
    last_word mark text (by_place mark text (split_parts mark text None h low))

-- a text has a part
pub some_part : (mark : ℕ) (text : List ℕ) → (first : List ℕ) × (more : List (List ℕ)) × (parts mark text ≡ first ∷ more)
some_part mark text = go (parts mark text) refl (omega (arith, length-slice_split (λ octet. octet == mark) text))
  where
    go : (ps : List (List ℕ)) → parts mark text ≡ ps → 0 < length (parts mark text) → (first : List ℕ) × (more : List (List ℕ)) × (parts mark text ≡ first ∷ more)
    go [] is some = absurd (let none : length (parts mark text) ≡ 0 = ap length is in omega arith)
    go (first ∷ more) is some = (first, more, is)

pub some_left : (mark : ℕ) (rest : Option (Bor (List ℕ))) (text : Bor (List ℕ)) → rest ≡ Some text
    → (first : List ℕ) × (more : List (List ℕ)) × (words_left mark rest ≡ first ∷ more)
some_left mark rest text is =
    let part = some_part mark text.now in
    (part.0, part.1, ap (words_left mark) is ∙ part.2)
