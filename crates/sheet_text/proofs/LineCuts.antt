-- Where a text is cut.
use Rattle.std.proofs.Common.{◌≡◌, ◌∙◌, ℕ, zero, suc, ◌<◌, ◌-◌, ◌==◌, Bool, true, false, List, [], ◌∷◌, length, get_or, take, drop, refl, sym, ap, arith, eq-eqb, Option, Some, None, rules, tests, Bor}
use Rattle.std.specs.List.{onto_first, join_with_byte}
use Rattle.std.specs.Str.Lines.{lines, lines_of_parts, strip_carriage_return}
use Rattle.std.proofs.lemmas.List.Splits.{slice_split-cons_yes, slice_split-cons_no, length-slice_split, join_with_byte-slice_split}
use Rattle.sheet_text.specs.Paths.{parts, parts_behind}
use Rattle.sheet_text.specs.Text.{entry_of, entry_of_words, grant_of, grant_of_words}
use Rattle.std.specs.Option.{option_copied}

-- before its first mark stands the first part
pub cut_here : (mark : ℕ) (text : List ℕ) (at : ℕ) → at < length text → ((k : ℕ) → k < at → get_or text k 0 ≡ mark → ⊥) → get_or text at 0 ≡ mark → parts mark text ≡ take at text ∷ parts mark (drop (suc at) text)
cut_here mark [] at l none is = absurd (omega arith)
cut_here mark (x ∷ xs) zero l none is = slice_split-cons_yes (λ octet. octet == mark) x xs (eq-eqb x mark is)
cut_here mark (x ∷ xs) (suc at) l none is =
    slice_split-cons_no (λ octet. octet == mark) x xs (not_mark (x == mark) refl)
    ∙ ap (onto_first x) (cut_here mark xs at (omega arith) (λ k less. none (suc k) (omega arith)) is)
  where
    not_mark : (b : Bool) → (x == mark) ≡ b → b ≡ false
    not_mark true e = absurd (none 0 (omega arith) (grind (arith, e)))
    not_mark false e = refl

pub no_cut : (mark : ℕ) (text : List ℕ) → ((k : ℕ) → k < length text → get_or text k 0 ≡ mark → ⊥) → parts mark text ≡ text ∷ []
no_cut mark [] none = refl
no_cut mark (x ∷ xs) none =
    slice_split-cons_no (λ octet. octet == mark) x xs (not_mark (x == mark) refl)
    ∙ ap (onto_first x) (no_cut mark xs (λ k less. none (suc k) (omega arith)))
  where
    not_mark : (b : Bool) → (x == mark) ≡ b → b ≡ false
    not_mark true e = absurd (none 0 (omega arith) (grind (arith, e)))
    not_mark false e = refl

some_part : (mark : ℕ) (text : List ℕ) → 0 < length (parts mark text)
some_part mark text = omega (arith, length-slice_split (λ octet. octet == mark) text)

-- a line that ends, and the lines behind it
pub lines_more : (line rest text : List ℕ) → parts 10 text ≡ line ∷ parts 10 rest → lines text ≡ strip_carriage_return line ∷ lines rest
lines_more line rest text e = ap lines_of_parts e ∙ go (parts 10 rest) (some_part 10 rest)
  where
    go : (ps : List (List ℕ)) → 0 < length ps → lines_of_parts (line ∷ ps) ≡ strip_carriage_return line ∷ lines_of_parts ps
    go [] h = absurd (omega arith)
    go (y ∷ ys) h = refl

-- the last line, which lacks its end
pub last_line : (line text rest : List ℕ) → 0 < length text → parts 10 text ≡ line ∷ [] → rest ≡ [] → lines text ≡ line ∷ lines rest
last_line line text rest h e none = ap lines_of_parts e ∙ go line (omega (arith, ap length same)) ∙ ap (λ r. line ∷ lines r) (sym none)
  where
    same : line ≡ text
    same = sym (ap (join_with_byte 10) e) ∙ join_with_byte-slice_split 10 text

    go : (l : List ℕ) → 0 < length l → lines_of_parts (l ∷ []) ≡ l ∷ []
    go l h = let full : (length l == 0) ≡ false = search (rules, tests) in rw full refl

-- more than four words are no entry
pub many_words : (word place amount floor line rest : List ℕ) → parts 32 line ≡ word ∷ place ∷ amount ∷ floor ∷ parts 32 rest → entry_of line ≡ None
many_words word place amount floor line rest e = ap entry_of_words e ∙ go (parts 32 rest) (some_part 32 rest)
  where
    go : (ps : List (List ℕ)) → 0 < length ps → entry_of_words (word ∷ place ∷ amount ∷ floor ∷ ps) ≡ None
    go [] h = absurd (omega arith)
    go (y ∷ ys) h = refl

-- more than four words are no line of a grants file
pub many_grant_words : (word place amount name line rest : List ℕ) → parts 32 line ≡ word ∷ place ∷ amount ∷ name ∷ parts 32 rest → grant_of line ≡ None
many_grant_words word place amount name line rest e = ap grant_of_words e ∙ go (parts 32 rest) (some_part 32 rest)
  where
    go : (ps : List (List ℕ)) → 0 < length ps → grant_of_words (word ∷ place ∷ amount ∷ name ∷ ps) ≡ None
    go [] h = absurd (omega arith)
    go (y ∷ ys) h = refl

pub nothing_left : (text : List ℕ) → take (length text - length text) (drop (length text) text) ≡ []
nothing_left text = let none : length text - length text ≡ 0 = omega arith in rw none refl

-- what stands behind a mark that is there
pub behind : (mark : ℕ) (text first : List ℕ) (r : Option (Bor (List ℕ))) (rest : Bor (List ℕ)) → parts mark text ≡ first ∷ parts_behind mark (option_copied r) → r ≡ Some rest → parts mark text ≡ first ∷ parts mark rest.now
behind mark text first r rest e is = e ∙ ap (λ (o : Option (Bor (List ℕ))). first ∷ parts_behind mark (option_copied o)) is
