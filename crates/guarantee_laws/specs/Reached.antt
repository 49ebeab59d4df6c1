-- The paces that a history of rounds reaches.
use Rattle.std.specs.Prelude.{◌≡◌, ℕ, ◌/◌, List, [], ◌∷◌, ◌++◌}
use Rattle.line_rates.specs.Rates.{Rates}
use Rattle.round_pace.specs.Changed.{idle}
use Rattle.round_pace.specs.Histories.{Held, AreHeld}
use Rattle.round_pace.specs.Paced.{Paced, IsPacedFrom}
use Rattle.round_pace.specs.Stretches.{Stretch, Lead}

-- a stretch: rates in force, and rounds held under them
abbrev pub stretch : Rates → List Held → Stretch
stretch rates hs = record { rates = rates; rounds = hs }

-- A history has reached a pace with these rates in force: of a pace without rates the pace is what
-- some stretches left, the last of which is under these rates.
pub record IsReached (rates : Rates) (p : Paced) : Type 0 where
  pub begun : ℕ
  pub stretches : List Stretch
  pub rounds : List Held
  pub lead : Lead (idle begun) (stretches ++ stretch rates rounds ∷ []) p

-- the rounds are all in one second of the clock
abbrev pub AreIn : ℕ → List Held → Type 0
AreIn second [] = Unit {0}
AreIn second (h ∷ hs) = (h.now / 1000000 ≡ second) × AreIn second hs

-- A new pace is reached by a history without a round,
abbrev pub NewIsReached : Type 0
NewIsReached =
    (begun : ℕ) (rates : Rates) (p : Paced) → IsPacedFrom begun rates p → IsReached rates p

-- and before any round of any stretch the history has reached a pace from which the next rounds of
-- the stretch were held.
abbrev pub EachRoundIsReached : Type 0
EachRoundIsReached =
    (begun : ℕ) (ss : List Stretch) (rates : Rates) (before hs : List Held) (more : List Stretch)
    (q : Paced) → Lead (idle begun) (ss ++ stretch rates (before ++ hs) ∷ more) q
    → (p : Paced) × IsReached rates p × AreHeld p hs
