-- Where a text is cut.
use Rattle.std.proofs.Common.{◌≡◌, ◌∙◌, ℕ, ◌<◌, ◌==◌, Bool, true, false, List, [], ◌∷◌, ◌++◌, ◌≤◌, length, get_or, take, drop, refl, sym, ap, arith}
use Rattle.std.specs.List.{onto_first}
use Rattle.std.proofs.Math.Seq.{drop-cons}
use Rattle.std.proofs.lemmas.List.{take_all, length-take-le, get_or-take}
use Rattle.std.proofs.lemmas.List.Splits.{slice_split-cons_yes, slice_split-cons_no, length-slice_split}
use Rattle.sheet_text.specs.Paths.{parts, names_of}
use Rattle.sheet_text.proofs.LineCuts.{cut_here, no_cut}

-- the names behind a name
pub cut_names : (text : List ℕ) (at : ℕ) → at < length text → ((k : ℕ) → k < at → get_or text k 0 ≡ 47 → ⊥) → get_or text at 0 ≡ 47 → parts 47 text ≡ take at text ∷ names_of (drop at text)
cut_names text at l none is = cut_here 47 text at l none is ∙ ap (λ (names : List (List ℕ)). take at text ∷ names) (sym (ap names_of (drop-cons text at 0 l)))

pub cut_all : (text : List ℕ) → ((k : ℕ) → k < length text → get_or text k 0 ≡ 47 → ⊥) → parts 47 text ≡ take (length text) text ∷ names_of (drop (length text) text)
cut_all text none =
    no_cut 47 text none
    ∙ ap (λ (name : List ℕ). name ∷ []) (sym (take_all (length text) text (omega arith)))
    ∙ ap (λ (rest : List ℕ). take (length text) text ∷ names_of rest) (sym (drop_all text))
  where
    drop_all : (xs : List ℕ) → drop (length xs) xs ≡ []
    drop_all [] = refl
    drop_all (x ∷ xs) = drop_all xs

pub no_cut_before : (text : List ℕ) (at : ℕ) → at ≤ length text → ((k : ℕ) → k < at → get_or text k 0 ≡ 47 → ⊥) → parts 47 (take at text) ≡ take at text ∷ []
no_cut_before text at l none =
    no_cut 47 (take at text) (λ k less is.
    let within : k < at = omega (arith, less, length-take-le at text l) in
    none k within (sym (get_or-take at text k 0 within) ∙ is))

-- paths side by side
parts_onto : (xs ys : List ℕ) → parts 47 (xs ++ 47 ∷ ys) ≡ parts 47 xs ++ parts 47 ys
parts_onto [] ys = slice_split-cons_yes (λ octet. octet == 47) 47 ys refl
parts_onto (x ∷ xs) ys = go (x == 47) refl (parts_onto xs ys)
  where
    onto : (first bs : List (List ℕ)) → 0 < length first → onto_first x (first ++ bs) ≡ onto_first x first ++ bs
    onto [] bs l = absurd (omega arith)
    onto (a ∷ more) bs l = refl

    go : (b : Bool) → (x == 47) ≡ b → parts 47 (xs ++ 47 ∷ ys) ≡ parts 47 xs ++ parts 47 ys → parts 47 (x ∷ (xs ++ 47 ∷ ys)) ≡ parts 47 (x ∷ xs) ++ parts 47 ys
    go true is rec =
        slice_split-cons_yes (λ octet. octet == 47) x (xs ++ 47 ∷ ys) is ∙ ap (λ (names : List (List ℕ)). [] ∷ names) rec
        ∙ ap (λ (names : List (List ℕ)). names ++ parts 47 ys) (sym (slice_split-cons_yes (λ octet. octet == 47) x xs is))
    go false is rec =
        slice_split-cons_no (λ octet. octet == 47) x (xs ++ 47 ∷ ys) is ∙ ap (onto_first x) rec
        ∙ onto (parts 47 xs) (parts 47 ys) (omega (arith, length-slice_split (λ (octet : ℕ). octet == 47) xs))
        ∙ ap (λ (names : List (List ℕ)). names ++ parts 47 ys) (sym (slice_split-cons_no (λ octet. octet == 47) x xs is))

-- the names of a path's text with a name more
pub names_more : (text name : List ℕ) → parts 47 name ≡ name ∷ [] → names_of (text ++ 47 ∷ name) ≡ names_of text ++ name ∷ []
names_more [] name alone = alone
names_more (slash ∷ text) name alone = parts_onto text name ∙ ap (λ (names : List (List ℕ)). parts 47 text ++ names) alone
