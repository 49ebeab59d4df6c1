-- Where a number stands, and one row changed among rising numbers.
use Rattle.std.proofs.Common.{◌≡◌, ℕ, cond, List, map, get_or, set, sym, ◌∙◌, None}
use Rattle.std.specs.FinMap as finite
use Rattle.std.specs.Prelude.{nat_eq}
use Rattle.std.proofs.lemmas.Bool.{eq-eqb, ne_eqb}
use Rattle.line_rates.specs.Put.{IsAt}
use Rattle.line_rates.specs.Stated.{by_number, IsRising}
use Rattle.line_rates.proofs.RowLemmas.{get-by_number, first_missing}
use Rattle.rate_floors.proofs.PlaceLemmas.{map_none, map_one, elsewhere}

-- the row of a number is changed where it stands, and none where it stands nowhere
pub changed_at : {X : Type 0} (number : X → ℕ) (h : X → X) (xs : List X) (q i : ℕ) (d : X) → IsRising number xs → IsAt number xs q i → map (λ x. cond (nat_eq (number x) q) (h x) x) xs ≡ set xs i (h (get_or xs i d))
changed_at number h xs q i d up at =
    map_one (λ x. nat_eq (number x) q) h xs i d at.0 (eq-eqb (number (get_or xs i d)) q (at.2 d)) (elsewhere number xs q i up at)

pub changed_nowhere : {X : Type 0} (number : X → ℕ) (h : X → X) (xs : List X) (q : ℕ) → finite.get (by_number number xs) q ≡ None → map (λ x. cond (nat_eq (number x) q) (h x) x) xs ≡ xs
changed_nowhere number h xs q none =
    map_none (λ x. nat_eq (number x) q) h xs (λ j e lt. ne_eqb (number (get_or xs j e)) q (first_missing number q xs (sym (get-by_number number q xs) ∙ none) j e lt))
