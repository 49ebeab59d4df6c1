-- Words and parts of a list.
use Rattle.std.proofs.Common.{arith, refl, sym, ap, ◌∙◌, ◌≡◌, ◌≤◌, ◌+◌, ◌-◌, ◌∷◌, [], ℕ, List, Bool, true, false, cond, Some, None, length, take, drop, ltb}
use Rattle.std.specs.List.{position, position_or_len, slice_split}
use Rattle.std.proofs.lemmas.Bool.{ltb-true, ltb-false}
use Rattle.std.proofs.lemmas.List.{take_rest}
use Rattle.std.proofs.lemmas.List.Sums.{fails_before_first}
use Rattle.std.proofs.lemmas.List.Splits.{slice_split_first, slice_split_none}

some_place : (b : Bool) (n at : ℕ) → cond b (Some n) None ≡ Some at → (b ≡ true) × (n ≡ at)
some_place true n at e = (refl, cc)
some_place false n at e = cc

no_place : (b : Bool) (n : ℕ) → cond b (Some n) None ≡ None → b ≡ false
no_place true n e = cc
no_place false n e = refl

-- the first part ends where the wanted octet was found
pub split_found : (p : ℕ → Bool) (xs : List ℕ) (at : ℕ) → position p xs ≡ Some at
    → slice_split p xs ≡ take at xs ∷ slice_split p (take (length xs - (at + 1)) (drop (at + 1) xs))
split_found p xs at e =
    let (here, is) = some_place (ltb (position_or_len p xs) (length xs)) (position_or_len p xs) at e in
    slice_split_first p xs 0 (ltb-true _ _ here) ∙ ap (λ n. take n xs ∷ slice_split p (drop (n + 1) xs)) is
    ∙ ap (λ t. take at xs ∷ slice_split p t) (sym (take_rest xs (at + 1)))

pub split_absent : (p : ℕ → Bool) (xs : List ℕ) → position p xs ≡ None → slice_split p xs ≡ xs ∷ []
split_absent p xs e =
    let past : length xs ≤ position_or_len p xs = ltb-false _ _ (no_place (ltb (position_or_len p xs) (length xs)) (position_or_len p xs) e) in
    slice_split_none p xs (λ k d l. fails_before_first p xs k d (omega arith))
