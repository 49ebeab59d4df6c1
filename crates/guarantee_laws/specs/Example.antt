-- A history that meets all premises of the laws, of one session.
use Rattle.std.specs.Prelude.{ℕ, ◌*◌, ◌≤◌, List, [], ◌∷◌, ◌++◌, None}
use Rattle.line_rates.specs.declared.ask.Ask.{Ask}
use Rattle.line_rates.specs.declared.ask.Way.TheVariants.{Down}
use Rattle.line_rates.specs.declared.row.UserRate.{UserRate}
use Rattle.line_rates.specs.Rates.{Rates}
use Rattle.line_rates.specs.Stated.{stated}
use Rattle.round_pace.specs.declared.credit.TheConstants.{TICKS}
use Rattle.round_pace.specs.Histories.{Held, after_all, AreHeld}
use Rattle.round_pace.specs.Paced.{Paced, no_credit, new_user}
use Rattle.guarantee_laws.specs.Account.{AsksForAll, AreInTime}
use Rattle.guarantee_laws.specs.Reached.{IsReached, AreIn}
use Rattle.guarantee_laws.specs.SessionRounds.{SessionWay, AreGrantedMost}
use Rattle.guarantee_laws.specs.Sure.{AreRates, MissesNone, AsksInTime}

-- the premises of all laws over rounds of a second
pub record MeetsPremises (rates : Rates) (s : SessionWay) (second : ℕ) (p : Paced) (hs : List Held)
    (h : Held) : Type 0 where
  pub fits : AreRates rates
  pub reached : IsReached rates p
  pub held : AreHeld p (hs ++ h ∷ [])
  pub among : AreIn second (hs ++ h ∷ [])
  pub early : p.begun ≤ TICKS * second
  pub asks : AsksForAll rates s (after_all p hs) h
  pub most : AreGrantedMost s (hs ++ h ∷ [])
  pub in_time : AreInTime rates s second p.begun p (hs ++ h ∷ [])
  pub misses : MissesNone rates s p (hs ++ h ∷ [])
  pub prompt : AsksInTime rates s second p (hs ++ h ∷ [])

-- user 7, whose sessions have a guarantee for downloads and no other rate
abbrev pub row_with : ℕ → UserRate
row_with floor = record {
  user = 7;
  group = None;
  down = 0;
  up = 0;
  session_down = 0;
  session_up = 0;
  session_down_floor = floor;
  session_up_floor = 0;
}

abbrev pub rates_with : ℕ → ℕ → Rates
rates_with server floor = stated server 0 0 [] (row_with floor ∷ [])

abbrev pub session : SessionWay
session = record { way = Down; user = 7; session = 0 }

-- a round with one ask
abbrev pub ask : Ask
ask = record { user = 7; session = 0; way = Down; want = 65536 }

abbrev pub round : ℕ → ℕ → Held
round now octets = record { now = now; leaves = record { ask = ask; octets = octets } ∷ [] }

-- a new pace under a rate of the server of 1,000 octets a second and a guarantee of 499
abbrev pub new_pace : Paced
new_pace = record {
  begun = 0;
  moment = 0;
  server = no_credit 1000;
  down = no_credit 0;
  up = no_credit 0;
  groups = [];
  users = new_user (row_with 499) ∷ [];
  offered = rates_with 1000 499;
}

-- Rounds in ticks 0, 3 and 7, which grant all that the server's rate earned.
abbrev pub SomeRoundsMeetPremises : Type 0
SomeRoundsMeetPremises =
    MeetsPremises (rates_with 1000 499) session 0 new_pace (round 0 2 ∷ round 6000 6 ∷ [])
    (round 14000 8)
