-- The first number of each place in an order.
use Rattle.std.proofs.Common.{◌≡◌, ◌∙◌, ℕ, ◌<◌, ◌+◌, nat_eq, Bool, true, false, not, cond, List, length, take, get_or, set, refl, sym, ap, arith, Option, Some, None, inl, inr, ne_eqb, eq-eqb, get_or-set_same, get_or-set_other, length-take-le}
use Rattle.std.specs.List.{position_from}
use Rattle.std.specs.Option.{is_some}
use Rattle.std.proofs.lemmas.Bool.{cases_eq}
use Rattle.std.proofs.lemmas.List.{take_more}
use Rattle.sheet_text.proofs.Listing.{push_found, push_none}

-- one place more
first_more : (order : List ℕ) (i place : ℕ) → i < length order → (o : Option ℕ) → position_from (nat_eq place) 0 (take i order) ≡ o
    → position_from (nat_eq place) 0 (take (i + 1) order) ≡ elim o as (λ _. Option ℕ) [ Some k ↦ Some k | None ↦ cond (nat_eq place (get_or order i 0)) (Some i) None ]
first_more order i place less (Some k) e = ap (position_from (nat_eq place) 0) (take_more order i 0 less) ∙ push_found (nat_eq place) 0 (take i order) (get_or order i 0) k e
first_more order i place less None e =
    let many : 0 + length (take i order) ≡ i = omega (arith, length-take-le i order (omega arith)) in
    ap (position_from (nat_eq place) 0) (take_more order i 0 less) ∙ push_none (nat_eq place) 0 (take i order) (get_or order i 0) e
    ∙ ap (λ (n : ℕ). cond (nat_eq place (get_or order i 0)) (Some n) None) many

-- an other place stands where it stood
other_more : (order : List ℕ) (i place : ℕ) → i < length order → (place ≡ get_or order i 0 → ⊥) → position_from (nat_eq place) 0 (take i order) ≡ position_from (nat_eq place) 0 (take (i + 1) order)
other_more order i place less other = go (position_from (nat_eq place) 0 (take i order)) refl
  where
    go : (o : Option ℕ) → position_from (nat_eq place) 0 (take i order) ≡ o → position_from (nat_eq place) 0 (take i order) ≡ position_from (nat_eq place) 0 (take (i + 1) order)
    go (Some k) e = e ∙ sym (first_more order i place less (Some k) e)
    go None e = e ∙ sym (first_more order i place less None e ∙ ap (λ (b : Bool). cond b (Some i) None) (ne_eqb place (get_or order i 0) other))

-- a place that had no number gets one
pub number_new : (numbers : List (Option ℕ)) (order : List ℕ) (i place count : ℕ) → i < length order → length numbers ≡ count → place ≡ get_or order i 0 → place < count → get_or numbers place None ≡ None
    → ((q : ℕ) → q < count → get_or numbers q None ≡ position_from (nat_eq q) 0 (take i order)) → (q : ℕ) → q < count → get_or (set numbers place (Some i)) q None ≡ position_from (nat_eq q) 0 (take (i + 1) order)
number_new numbers order i place count less many is within none are q l = elim (cases_eq q place) [
  | inl same ↦
      let before : position_from (nat_eq q) 0 (take i order) ≡ None = sym (are q l) ∙ ap (λ (n : ℕ). get_or numbers n None) same ∙ none in
      let here : nat_eq q (get_or order i 0) ≡ true = eq-eqb q (get_or order i 0) (same ∙ is) in
      ap (λ (n : ℕ). get_or (set numbers place (Some i)) n None) same ∙ get_or-set_same numbers place (Some i) None (omega arith)
      ∙ sym (first_more order i q less None before ∙ ap (λ (b : Bool). cond b (Some i) None) here)
  | inr other ↦
      get_or-set_other numbers place q (Some i) None other ∙ are q l ∙ other_more order i q less (λ e. other (e ∙ sym is))
]

-- a place that had one keeps it
pub number_old : (numbers : List (Option ℕ)) (order : List ℕ) (i place count : ℕ) → i < length order → place ≡ get_or order i 0 → place < count → is_some (get_or numbers place None) ≡ true
    → ((q : ℕ) → q < count → get_or numbers q None ≡ position_from (nat_eq q) 0 (take i order)) → (q : ℕ) → q < count → get_or numbers q None ≡ position_from (nat_eq q) 0 (take (i + 1) order)
number_old numbers order i place count less is within some are q l = elim (cases_eq q place) [
  | inl same ↦ go (position_from (nat_eq q) 0 (take i order)) refl (sym (ap is_some (are q l)) ∙ ap (λ (n : ℕ). is_some (get_or numbers n None)) same ∙ some)
  | inr other ↦ are q l ∙ other_more order i q less (λ e. other (e ∙ sym is))
]
  where
    go : (o : Option ℕ) → position_from (nat_eq q) 0 (take i order) ≡ o → is_some (position_from (nat_eq q) 0 (take i order)) ≡ true → get_or numbers q None ≡ position_from (nat_eq q) 0 (take (i + 1) order)
    go (Some k) e h = are q l ∙ e ∙ sym (first_more order i q less (Some k) e)
    go None e h = let no : is_some (position_from (nat_eq q) 0 (take i order)) ≡ false = ap is_some e in cc

pub none_of : (o : Option ℕ) (b : Bool) → is_some o ≡ not b → b ≡ true → o ≡ None
none_of None b e h = refl
none_of (Some n) true e h = cc
none_of (Some n) false e h = cc

pub some_of : (o : Option ℕ) (b : Bool) → is_some o ≡ not b → b ≡ false → is_some o ≡ true
some_of o true e h = cc
some_of o false e h = e
