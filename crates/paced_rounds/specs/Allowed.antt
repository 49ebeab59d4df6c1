-- Histories whose rates pass a test.
use Rattle.std.specs.Prelude.{◌≡◌, Bool, true, List}
use Rattle.std.specs.List.{list_all}
use Rattle.line_rates.specs.Rates.{Rates}
use Rattle.round_pace.specs.Stretches.{Stretch}

-- the rates of each stretch pass the test
abbrev pub AreAllowed : (Rates → Bool) → List Stretch → Type 0
AreAllowed allowed ss = list_all (λ s. allowed s.rates) ss ≡ true
