-- Which numbers rows have, where each is changed and keeps its number.
use Rattle.std.proofs.Common.{◌≡◌, ℕ, Bool, true, false, cond, List, [], ◌∷◌, map, sym, refl, ap, ◌∙◌, Some}
use Rattle.std.specs.FinMap as finite
use Rattle.std.specs.Option.{is_some}
use Rattle.std.specs.Prelude.{nat_eq}
use Rattle.line_rates.specs.Stated.{by_number}
use Rattle.line_rates.proofs.RowLemmas.{first_row, get-by_number}

first_mapped : {X Y : Type 0} (number : X → ℕ) (other : Y → ℕ) (f : X → Y) → ((x : X) → other (f x) ≡ number x) → (q : ℕ) (xs : List X)
    → is_some (first_row other q (map f xs)) ≡ is_some (first_row number q xs)
first_mapped number other f same q [] = refl
first_mapped {X} {Y} number other f same q (x ∷ xs) =
    ap (λ (n : ℕ). is_some (cond (nat_eq n q) (Some (f x)) (first_row other q (map f xs)))) (same x) ∙ go (nat_eq (number x) q) (first_mapped number other f same q xs)
  where
    go : (b : Bool) → is_some (first_row other q (map f xs)) ≡ is_some (first_row number q xs)
        → is_some (cond b (Some (f x)) (first_row other q (map f xs))) ≡ is_some (cond b (Some x) (first_row number q xs))
    go true e = refl
    go false e = e

pub keys_mapped : {X Y : Type 0} (number : X → ℕ) (other : Y → ℕ) (f : X → Y) → ((x : X) → other (f x) ≡ number x) → (xs : List X) (q : ℕ)
    → is_some (finite.get (by_number other (map f xs)) q) ≡ is_some (finite.get (by_number number xs) q)
keys_mapped number other f same xs q =
    ap is_some (get-by_number other q (map f xs)) ∙ (first_mapped number other f same q xs ∙ sym (ap is_some (get-by_number number q xs)))
