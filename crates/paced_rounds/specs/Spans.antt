-- The octets of a history from the second of its beginning to that of its last round.
use Rattle.std.specs.Prelude.{◌≡◌, ◌≢◌, ℕ, zero, suc, ◌+◌, ◌-◌, ◌*◌, ◌/◌, ◌≤◌, max, List, [], ◌∷◌, sum_by, ⊤}
use Rattle.line_rates.specs.declared.ask.Name.{Name}
use Rattle.line_rates.specs.declared.ask.Name.TheVariants.{Server}
use Rattle.line_rates.specs.Rates.{rate_of}
use Rattle.round_pace.specs.Histories.{Held}
use Rattle.round_pace.specs.Rounds.{is_in}
use Rattle.round_pace.specs.Stretches.{Stretch, RatedRound, rated_under, rates_where, changes, StretchesKeep}
use Rattle.paced_rounds.specs.History.{octets_in}

-- the moments of these rounds are from one to another, both in microseconds
abbrev pub AreBetween : ℕ → ℕ → List Held → Type 0
AreBetween first last [] = ⊤
AreBetween first last (h ∷ hs) = (first ≤ h.now) × (h.now ≤ last) × AreBetween first last hs

abbrev pub AllBetween : ℕ → ℕ → List Stretch → Type 0
AllBetween first last [] = ⊤
AllBetween first last (s ∷ ss) = AreBetween first last s.rounds × AllBetween first last ss

-- the number of seconds of the clock from a moment to a later one, with those of both
abbrev pub seconds_from : ℕ → ℕ → ℕ
seconds_from first last = suc (last / 1000000) - first / 1000000

abbrev pub greatest : List ℕ → ℕ
greatest [] = 0
greatest (x ∷ xs) = max x (greatest xs)

-- The octets that the rates of a name allow in a second: the greatest of those in force in its
-- rounds, and an octet for each change between two of them.
abbrev pub allowed_at : Name → List Stretch → ℕ → ℕ
allowed_at n ss second =
    greatest (rates_where (is_in second) (rated_under n ss))
    + changes (rates_where (is_in second) (rated_under n ss))

-- the same for seconds in a row
abbrev pub allowed_in : Name → List Stretch → ℕ → ℕ → ℕ
allowed_in n ss first zero = 0
allowed_in n ss first (suc count) = allowed_in n ss first count + allowed_at n ss (first + count)

-- the octets that they allow from one moment to another
abbrev pub allowed_from : Name → List Stretch → ℕ → ℕ → ℕ
allowed_from n ss first last = allowed_in n ss (first / 1000000) (seconds_from first last)

-- the octets that rounds granted under a name
abbrev pub granted_to : Name → List Stretch → ℕ
granted_to n ss = sum_by (λ (r : RatedRound). r.round.granted) (rated_under n ss)

-- the name has a rate in each stretch
abbrev pub HasRates : Name → List Stretch → Type 0
HasRates n [] = ⊤
HasRates n (s ∷ ss) = (rate_of s.rates n ≢ 0) × HasRates n ss

-- the name has this rate in each stretch
abbrev pub HasRate : Name → ℕ → List Stretch → Type 0
HasRate n rate [] = ⊤
HasRate n rate (s ∷ ss) = (rate_of s.rates n ≡ rate) × HasRate n rate ss

-- Rounds that keep the rates, all from one moment to another, granted at most what the rates allow
-- from the second of the one to that of the other. All octets count under the server's name.
pub record IsWithinRates (ss : List Stretch) (first last : ℕ) : Type 0 where
  pub allowed : (n : Name) → HasRates n ss → granted_to n ss ≤ allowed_from n ss first last
  pub one_rate : (n : Name) (rate : ℕ) → rate ≢ 0 → HasRate n rate ss
      → granted_to n ss ≤ seconds_from first last * rate
  pub server : granted_to Server ss ≡ sum_by octets_in ss

abbrev pub SpansAreKept : Type 0
SpansAreKept = (ss : List Stretch) (first last : ℕ) → StretchesKeep ss → AllBetween first last ss
    → IsWithinRates ss first last
