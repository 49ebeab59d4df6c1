-- Stretches of a history: between two of them the rates were changed.
use Rattle.std.specs.Prelude.{◌≡◌, ◌≢◌, ℕ, ◌+◌, ◌≤◌, Bool, nat_eq, if◌then◌else◌, List, [], ◌∷◌, ◌++◌, map}
use Rattle.line_rates.specs.declared.ask.Name.{Name}
use Rattle.line_rates.specs.Rates.{Rates, rate_of}
use Rattle.round_pace.specs.Changed.{IsChangedTo, idle}
use Rattle.round_pace.specs.Earned.{most_kept}
use Rattle.round_pace.specs.Histories.{Held, after_all, AreHeld, rates_of, round_under, rounds_under, KeepsRates}
use Rattle.round_pace.specs.Paced.{Paced, IsPacedFrom}
use Rattle.round_pace.specs.Rounds.{Round, granted_where, is_in, is_from}

-- a stretch: the rates in force, and the rounds held under them
pub record Stretch : Type 0 where
  pub rates : Rates
  pub rounds : List Held

-- Stretches lead from one pace to another: each begins with the pace before it, changed to its
-- rates, and ends with what its rounds left.
abbrev pub Lead : Paced → List Stretch → Paced → Type 0
Lead p [] q = p ≡ q
Lead p (s ∷ ss) q = (first : Paced) × IsChangedTo s.rates p first × AreHeld first s.rounds
    × Lead (after_all first s.rounds) ss q

-- a round under a name, with the rate of that name that was in force
pub record RatedRound : Type 0 where
  pub rate : ℕ
  pub round : Round

abbrev pub rated : Rates → Name → Held → RatedRound
rated rates n h = record { rate = rate_of rates n; round = round_under rates n h }

abbrev pub rated_under : Name → List Stretch → List RatedRound
rated_under n [] = []
rated_under n (s ∷ ss) = map (rated s.rates n) s.rounds ++ rated_under n ss

-- the rates that were in force in the rounds that pass a test, in their order
abbrev pub rates_where : (Round → Bool) → List RatedRound → List ℕ
rates_where test [] = []
rates_where test (r ∷ rs) =
    if test r.round then r.rate ∷ rates_where test rs else rates_where test rs

-- how often the rate changes from one to the next
abbrev pub changes_from : ℕ → List ℕ → ℕ
changes_from rate [] = 0
changes_from rate (x ∷ xs) = (if nat_eq rate x then 0 else 1) + changes_from x xs

abbrev pub changes : List ℕ → ℕ
changes [] = 0
changes (x ∷ xs) = changes_from x xs

-- each is a limit, and at most `bound`
abbrev pub AreWithin : ℕ → List ℕ → Type 0
AreWithin bound [] = Unit {0}
AreWithin bound (x ∷ xs) = (x ≢ 0) × (x ≤ bound) × AreWithin bound xs

abbrev pub round_of : RatedRound → Round
round_of r = r.round

-- in a second from any moment, the rounds of each stretch grant at most the rate and what is kept
abbrev pub IsWindowed : Stretch → Type 0
IsWindowed s = (n : Name) → rate_of s.rates n ≢ 0 → (start : ℕ)
    → granted_where (is_from start) (rounds_under s.rates n s.rounds)
    ≤ rate_of s.rates n + most_kept (rate_of s.rates n)

abbrev pub AreWindowed : List Stretch → Type 0
AreWindowed [] = Unit {0}
AreWindowed (s ∷ ss) = IsWindowed s × AreWindowed ss

-- In each second of the clock at most the greatest rate in force is granted under each name, and
-- one octet for each change of its rate between two rounds of that second.
pub record StretchesKeep (ss : List Stretch) : Type 0 where
  pub seconds : (n : Name) (second bound : ℕ)
      → AreWithin bound (rates_where (is_in second) (rated_under n ss))
      → granted_where (is_in second) (map round_of (rated_under n ss))
      ≤ bound + changes (rates_where (is_in second) (rated_under n ss))
  pub windows : AreWindowed ss

-- The stretches of a pace that began without rates keep each name's rates.
abbrev pub StretchesKeepRates : Type 0
StretchesKeepRates = (begun : ℕ) (ss : List Stretch) (p : Paced) → Lead (idle begun) ss p
    → StretchesKeep ss

-- With one stretch, its rates are kept as by a pace that is never changed.
abbrev pub OneStretchKeeps : Type 0
OneStretchKeeps = (rates : Rates) (hs : List Held)
    → StretchesKeep (record { rates = rates; rounds = hs } ∷ []) → KeepsRates rates hs

-- A change puts exactly the new rates in force, and a new pace is one without rates that was
-- changed to its rates.
abbrev pub ChangedRates : Type 0
ChangedRates = (rates : Rates) (p q : Paced) → IsChangedTo rates p q → rates_of q ≡ rates

abbrev pub NewIsChanged : Type 0
NewIsChanged = (begun : ℕ) (rates : Rates) (p : Paced) → IsPacedFrom begun rates p
    → IsChangedTo rates (idle begun) p
