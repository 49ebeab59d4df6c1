-- The first line of a text, and the lines after it.
use Rattle.std.proofs.Common.{◌≡◌, ◌≢◌, ◌∙◌, ◌==◌, ℕ, Bool, true, false, cond, List, [], ◌∷◌, length, refl, sym, ap, arith}
use Rattle.std.specs.Prelude.{slice_index}
use Rattle.std.specs.Io.BufRead.{drop_through, take_through}
use Rattle.std.specs.List.{onto_first}
use Rattle.std.proofs.lemmas.List.Splits.{slice_split-cons_no, slice_split-cons_yes}
use Rattle.log_lines.specs.Words.{Octets, parts}
use Rattle.usage_report.specs.Usages.{lines_in, without_end}

-- the text without the end of its last line, by recursion
abbrev ended : Octets → Octets
ended [] = []
ended (x ∷ []) = cond (x == 10) [] (x ∷ [])
ended (x ∷ y ∷ rest) = x ∷ ended (y ∷ rest)

step : (x y : ℕ) (rest : Octets) → without_end (x ∷ y ∷ rest) ≡ x ∷ without_end (y ∷ rest)
step x y rest = go (slice_index (y ∷ rest) (length rest)) refl
  where
    go : (last : ℕ) → slice_index (y ∷ rest) (length rest) ≡ last → without_end (x ∷ y ∷ rest) ≡ x ∷ without_end (y ∷ rest)
    go last is = grind arith

is_ended : (text : Octets) → without_end text ≡ ended text
is_ended [] = refl
is_ended (x ∷ []) = refl
is_ended (x ∷ y ∷ rest) = step x y rest ∙ ap (λ (more : Octets). x ∷ more) (is_ended (y ∷ rest))

-- the lines of a text that is not empty
abbrev cut : Octets → List Octets
cut text = parts 10 (ended text)

some_lines : (x : ℕ) (xs : Octets) → lines_in (x ∷ xs) ≡ cut (x ∷ xs)
some_lines x xs = ap (parts 10) (is_ended (x ∷ xs))

longer : (x y : ℕ) (ys : Octets) → ended (x ∷ take_through 10 (y ∷ ys)) ≡ x ∷ ended (take_through 10 (y ∷ ys))
longer x y ys = go (y == 10) refl
  where
    go : (b : Bool) → (y == 10) ≡ b → ended (x ∷ take_through 10 (y ∷ ys)) ≡ x ∷ ended (take_through 10 (y ∷ ys))
    go true e = rw e refl
    go false e = rw e refl

one_left : (x : ℕ) → cut (x ∷ []) ≡ ended (take_through 10 (x ∷ [])) ∷ lines_in (drop_through 10 (x ∷ []))
one_left x = go (x == 10) refl
  where
    go : (b : Bool) → (x == 10) ≡ b → cut (x ∷ []) ≡ ended (take_through 10 (x ∷ [])) ∷ lines_in (drop_through 10 (x ∷ []))
    go true e = rw e (rw e refl)
    go false e = rw e (rw e refl)

more_left : (x y : ℕ) (ys : Octets) → cut (y ∷ ys) ≡ ended (take_through 10 (y ∷ ys)) ∷ lines_in (drop_through 10 (y ∷ ys))
    → cut (x ∷ y ∷ ys) ≡ ended (take_through 10 (x ∷ y ∷ ys)) ∷ lines_in (drop_through 10 (x ∷ y ∷ ys))
more_left x y ys first = go (x == 10) refl
  where
    go : (b : Bool) → (x == 10) ≡ b → cut (x ∷ y ∷ ys) ≡ ended (take_through 10 (x ∷ y ∷ ys)) ∷ lines_in (drop_through 10 (x ∷ y ∷ ys))
    go true e =
        slice_split-cons_yes (λ octet. octet == 10) x (ended (y ∷ ys)) e
        ∙ ap (λ (lines : List Octets). [] ∷ lines) (sym (some_lines y ys))
        ∙ rw e (rw e refl)
    go false e =
        slice_split-cons_no (λ octet. octet == 10) x (ended (y ∷ ys)) e
        ∙ ap (onto_first x) first
        ∙ ap (λ (line : Octets). line ∷ lines_in (drop_through 10 (y ∷ ys))) (sym (longer x y ys))
        ∙ rw e refl

-- the first line, and the lines of the rest
cut_first : (x : ℕ) (xs : Octets) → cut (x ∷ xs) ≡ ended (take_through 10 (x ∷ xs)) ∷ lines_in (drop_through 10 (x ∷ xs))
cut_first x [] = one_left x
cut_first x (y ∷ ys) = more_left x y ys (cut_first y ys)

-- what `read_until` takes of a text that is not empty is its first line
pub first_line : (text : Octets) → text ≢ [] → lines_in text ≡ without_end (take_through 10 text) ∷ lines_in (drop_through 10 text)
first_line [] some = absurd (some refl)
first_line (x ∷ xs) some =
    some_lines x xs ∙ cut_first x xs
    ∙ ap (λ (line : Octets). line ∷ lines_in (drop_through 10 (x ∷ xs))) (sym (is_ended (take_through 10 (x ∷ xs))))
