-- Texts and their fronts.
use Rattle.std.proofs.Common.{◌≡◌, ◌≤◌, ◌<◌, ◌∙◌, ◌+◌, ◌-◌, ℕ, Bool, true, false, List, [], ◌∷◌, ◌++◌, append-nil, append_assoc, arith, chars, codes, drop, encode_utf8, encode_utf8_all, get_or, length, map, min, nat_le, refl, replicate, ap, sym, slice_index_or, take}
use Rattle.std.proofs.lemmas.Bool.{and_parts, leb-false, leb-true, lt-ltb}
use Rattle.std.proofs.lemmas.List.{length-drop, take_all, take_more}
use Rattle.std.proofs.lemmas.List.Sums.{sum_by-cons}
use Rattle.std.proofs.lemmas.Str.{encodes-append}
use Rattle.unicode_width.specs.Width.{char_width}
use Rattle.status_table.specs.declared.table.TheConstants.{COLUMNS}
use Rattle.status_table.specs.Cells.{is_printable, plain}
use Rattle.status_table.specs.Tables.{AreNarrow}
use Rattle.status_table.specs.Widths.{columns, ending, front, left, tail, width}

pub same_items : (xs : List ℕ) → map (λ x. x) xs ≡ xs
same_items [] = refl
same_items (x ∷ xs) = ap (λ (more : List ℕ). x ∷ more) (same_items xs)

-- the front of a text up to its length is that up to any length
pub take_min : {X : Type 0} (xs : List X) (n : ℕ) → take (min (length xs) n) xs ≡ take n xs
take_min xs n = go (nat_le (length xs) n) refl
  where
    go : (b : Bool) → nat_le (length xs) n ≡ b → take (min (length xs) n) xs ≡ take n xs
    go true is =
        let few : length xs ≤ n = leb-true _ _ is in
        let all : min (length xs) n ≡ length xs = omega arith in
        ap (λ (k : ℕ). take k xs) all ∙ (take_all (length xs) xs (omega arith) ∙ sym (take_all n xs few))
    go false is =
        let many : n < length xs = leb-false _ _ is in
        let some : min (length xs) n ≡ n = omega arith in
        ap (λ (k : ℕ). take k xs) some

-- the octets of the characters before one, and of it
pub encode_more : (cs : List ℕ) (i c : ℕ) (old before after : List ℕ)
    → i < length cs → c ≡ get_or cs i c → before ≡ old ++ encode_utf8_all (take i cs) → after ≡ before ++ encode_utf8 c → after ≡ old ++ encode_utf8_all (take (i + 1) cs)
encode_more cs i c old before after within at was grown =
    let some = encode_utf8_all (take i cs) in
    let last : some ++ encode_utf8 c ≡ encode_utf8_all (take (i + 1) cs) =
    ap (λ (d : ℕ). some ++ encode_utf8 d) at
    ∙ (ap (λ (l : List ℕ). some ++ l) (sym (append-nil (encode_utf8 (get_or cs i c))))
    ∙ (sym (encodes-append (take i cs) (get_or cs i c ∷ [])) ∙ ap (λ (l : List ℕ). encode_utf8_all l) (sym (take_more cs i c within)))) in
    grown ∙ (ap (λ (l : List ℕ). l ++ encode_utf8 c) was ∙ (append_assoc old some (encode_utf8 c) ∙ ap (λ (l : List ℕ). old ++ l) last))

-- a text in its column, of its front and of the blanks that are left
pub left_is : (n free : ℕ) (text cs old some all : List ℕ)
    → 1 ≤ n → free + width (front (n - 1) (chars text)) ≡ n - 1 → cs ≡ front (n - 1) (chars text) → some ≡ old ++ encode_utf8_all cs → all ≡ some ++ replicate (free + 1) 32 → all ≡ old ++ left n text
unfolding left
left_is n free text cs old some all wide rest is was grown =
    let own = front (n - 1) (chars text) in
    let count : free + 1 ≡ n - width own = omega (arith, wide, rest) in
    let blanks = replicate (free + 1) 32 in
    grown
    ∙ (ap (λ (l : List ℕ). l ++ blanks) was
    ∙ (append_assoc old (encode_utf8_all cs) blanks
    ∙ (ap (λ (l : List ℕ). old ++ (encode_utf8_all l ++ blanks)) is
    ∙ ap (λ (k : ℕ). old ++ (encode_utf8_all own ++ replicate k 32)) count)))

pub tail_whole : (n : ℕ) (text : List ℕ) → nat_le (width (chars text)) n ≡ true → tail n text ≡ text
unfolding tail
tail_whole n text is = rw is refl

pub tail_cut : (n : ℕ) (text : List ℕ) → nat_le (width (chars text)) n ≡ false → tail n text ≡ codes "..." ++ encode_utf8_all (ending (n - 3) (chars text))
unfolding tail
tail_cut n text is = rw is refl

-- what is left from a place on, by its length
pub to_end : (n : ℕ) (xs : List ℕ) → take (length xs - n) (drop n xs) ≡ drop n xs
to_end n xs =
    let few = length-drop n xs in
    take_all (length xs - n) (drop n xs) (omega (arith, few))

-- the longest front is as wide as it may be at most
pub front_fits : (n : ℕ) (cs : List ℕ) → width (front n cs) ≤ n
front_fits n [] = omega arith
front_fits n (c ∷ cs) = go (nat_le (columns c) n) refl (front_fits (n - columns c) cs)
  where
    go : (b : Bool) → nat_le (columns c) n ≡ b → width (front (n - columns c) cs) ≤ n - columns c → width (front n (c ∷ cs)) ≤ n
    go true is rest =
        let fits = leb-true (columns c) n is in
        let sum = sum_by-cons columns c (front (n - columns c) cs) in
        rw is omega (arith, fits, rest, sum)
    go false is rest = rw is omega arith

pub are_narrow : (lines : List (List ℕ)) → AreNarrow lines
are_narrow lines k d within = front_fits COLUMNS (map plain (chars (slice_index_or lines k d)))

pub one_column : (c : ℕ) → is_printable c ≡ true → columns c ≡ 1
unfolding char_width
one_column c is =
    let low = (and_parts (nat_le 32 c) (nat_le c 126) is).0 in
    let last = leb-true c 126 (and_parts (nat_le 32 c) (nat_le c 126) is).1 in
    let high = lt-ltb c 127 (omega (arith, last)) in
    rw high rw low refl
