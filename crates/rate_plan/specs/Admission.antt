-- Admission of the sessions of transfers, one after the other.
use Rattle.std.specs.Prelude.{◌≡◌, ◌<◌, ℕ, ◌+◌, Bool, true, false, ◌&&◌, if◌then◌else◌, List, [], ◌∷◌, length, sum_by, take}
use Rattle.std.specs.FinMap as finite
use Rattle.line_rates.specs.declared.ask.Ask.{Ask}
use Rattle.line_rates.specs.declared.ask.Name.{Name}
use Rattle.line_rates.specs.declared.ask.Way.{Way}
use Rattle.line_rates.specs.declared.ask.Way.TheVariants.{Down, Up}
use Rattle.line_rates.specs.Names.{bears}
use Rattle.line_rates.specs.Rates.{Rates, floor_rate, rate_of}
use Rattle.rate_floors.specs.Promises.{HasNoSessions, Promises, admits, after_admit}
use Rattle.rate_plan.specs.declared.asks.Transfer.{Transfer}

-- each session is admitted after those before it
abbrev pub are_admitted : Promises → List Transfer → Bool
are_admitted p [] = true
are_admitted p (t ∷ ts) = admits p t.user && are_admitted (after_admit p t.user) ts

-- the promises of these rates with no session counted
pub record AreFresh (rates : Rates) (p : Promises) : Type 0 where
  pub of : p.rates ≡ rates
  pub none : HasNoSessions p

abbrev pub AreAdmitted : Rates → List Transfer → Type 0
AreAdmitted rates ts = (p : Promises) × AreFresh rates p × (are_admitted p ts ≡ true)

-- The sessions before this place are admitted, and that of the transfer there is not.
pub record IsFirstRefused (p : Promises) (ts : List Transfer) (place : ℕ) : Type 0 where
  pub within : place < length ts
  pub before : are_admitted p (take place ts) ≡ true
  pub at : are_admitted p (take (place + 1) ts) ≡ false

abbrev pub IsRefusedAt : Rates → List Transfer → ℕ → Type 0
IsRefusedAt rates ts place = (p : Promises) × AreFresh rates p × IsFirstRefused p ts place

-- the guarantee of an ask's session under a name, one way; and both ways
abbrev pub guaranteed_one : Rates → Name → Way → Ask → ℕ
guaranteed_one rates n way a =
    if bears rates n (record { user = a.user; session = a.session; way = way; want = a.want })
    then floor_rate (finite.get rates.users a.user) way else 0

abbrev pub guaranteed_to : Rates → Name → Ask → ℕ
guaranteed_to rates n a = guaranteed_one rates n Down a + guaranteed_one rates n Up a

-- the sum of the guarantees of the sessions of asks under a name
abbrev pub guaranteed : Rates → Name → List Ask → ℕ
guaranteed rates n asks = sum_by (guaranteed_to rates n) asks

-- the name has a rate, and the sessions are guaranteed more
pub record IsExceeded (rates : Rates) (asks : List Ask) (n : Name) : Type 0 where
  pub limited : 0 < rate_of rates n
  pub more : rate_of rates n < guaranteed rates n asks
