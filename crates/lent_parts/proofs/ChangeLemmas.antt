-- Stretches of a history whose rates pass a test.
use Rattle.std.proofs.Common.{◌≡◌, Bool, true, List, [], ◌∷◌, ◌++◌, Result, Ok, Err}
use Rattle.std.specs.Prelude.{◌&&◌, OnOk, OnErr}
use Rattle.std.specs.List.{list_all}
use Rattle.std.proofs.lemmas.Bool.{and_parts}
use Rattle.line_rates.specs.Rates.{Rates}
use Rattle.round_pace.specs.Stretches.{Stretch}
use Rattle.paced_rounds.specs.Allowed.{AreAllowed}

-- one stretch more
pub allowed_more : (allowed : Rates → Bool) (ss : List Stretch) (s : Stretch) → AreAllowed allowed ss → allowed s.rates ≡ true → AreAllowed allowed (ss ++ s ∷ [])
allowed_more allowed [] s are rated = λ i. rated i && true
allowed_more allowed (x ∷ ss) s are rated =
    let parts : (allowed x.rates ≡ true) × (list_all (λ (y : Stretch). allowed y.rates) ss ≡ true) = and_parts _ _ are in
    λ i. parts.0 i && allowed_more allowed ss s parts.1 rated i

-- what holds in both cases of a result
pub in_both : {A B P Q G : Type 0} (r : Result A B) → OnOk r P → OnErr r Q → (P → G) → (Q → G) → G
in_both (Ok x) passed failed f g = f passed
in_both (Err e) passed failed f g = g failed
