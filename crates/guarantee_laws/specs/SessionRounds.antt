-- The rounds of a history, as a session of a user sees them.
use Rattle.std.specs.Prelude.{◌≡◌, ◌≤◌, ℕ, ◌-◌, ◌/◌, Bool, true, ◌&&◌, nat_eq, nat_le, List, [], ◌∷◌}
use Rattle.std.specs.FinMap as finite
use Rattle.std.specs.List.{list_any}
use Rattle.line_rates.specs.declared.ask.Way.{Way}
use Rattle.line_rates.specs.Granted.{Granted}
use Rattle.line_rates.specs.Names.{same_way}
use Rattle.line_rates.specs.Rates.{Rates, floor_rate as stated_floor}
use Rattle.round_pace.specs.Earned.{tick_of}
use Rattle.round_pace.specs.FloorsFit.{floor_in}
use Rattle.round_pace.specs.Guaranteed.{owed_to, parts_for}
use Rattle.round_pace.specs.Histories.{Held, after}
use Rattle.round_pace.specs.Offered.{offer_round}
use Rattle.round_pace.specs.OverTime.{OwedRound}
use Rattle.round_pace.specs.OwnParts.{session_octets, most_to}
use Rattle.round_pace.specs.Paced.{Paced}

-- a session of a user, and the direction of its transfers
pub record SessionWay : Type 0 where
  pub way : Way
  pub user : ℕ
  pub session : ℕ

-- its guarantee, in octets per second
abbrev pub guarantee : Rates → SessionWay → ℕ
guarantee rates s = stated_floor (finite.get rates.users s.user) s.way

-- its debt in a pace, in 500ths of an octet, and the thousandths of ticks that its rates have left
abbrev pub owed : SessionWay → Paced → ℕ
owed s p = owed_to s.way s.user p

abbrev pub parts : SessionWay → Paced → ℕ
parts s p = parts_for s.way s.user p

-- the pace as a round was offered it
abbrev pub offered_in : Paced → Held → Paced
offered_in p h = offer_round (tick_of h.now) p

-- the octets that are handed in for its guarantee in a round
abbrev pub handed_in : Rates → SessionWay → Paced → Held → ℕ
handed_in rates s p h =
    floor_in (guarantee rates s) (owed s (offered_in p h)) (parts s (offered_in p h))

-- the ask is one of the session, and wants at least some octets
abbrev pub wants : SessionWay → ℕ → Granted → Bool
wants s least g = (same_way g.ask.way s.way
    && (nat_eq g.ask.user s.user && nat_eq g.ask.session s.session)) && nat_le least g.ask.want

-- The session asks in a round: one of its asks in it wants at least what is handed in for it.
abbrev pub asks_in : Rates → SessionWay → Paced → Held → Bool
asks_in rates s p h = list_any (wants s (handed_in rates s p h)) h.leaves

-- An ask for the guarantee of a tenth of a second is one for all that can be handed in.
abbrev pub TenthIsEnough : Type 0
TenthIsEnough = (rates : Rates) (s : SessionWay) (p : Paced) (h : Held)
    → list_any (wants s (guarantee rates s / 10)) h.leaves ≡ true → asks_in rates s p h ≡ true

-- the octets that a round granted it, and the most that it granted to one session of its user
abbrev pub granted_to : SessionWay → Held → ℕ
granted_to s h = session_octets s.way s.user s.session h.leaves

abbrev pub most_granted : SessionWay → Held → ℕ
most_granted s h = most_to s.way s.user h.leaves h.leaves

-- the octets by which another session of its user was granted more
abbrev pub granted_beyond : SessionWay → Held → ℕ
granted_beyond s h = most_granted s h - granted_to s h

-- In no round another session of its user was granted more.
abbrev pub IsGrantedMost : SessionWay → Held → Type 0
IsGrantedMost s h = (other : ℕ) → session_octets s.way s.user other h.leaves ≤ granted_to s h

abbrev pub AreGrantedMost : SessionWay → List Held → Type 0
AreGrantedMost s [] = Unit {0}
AreGrantedMost s (h ∷ hs) = IsGrantedMost s h × AreGrantedMost s hs

-- a round as one under a guarantee, and rounds, one after another
abbrev pub owed_round : Rates → SessionWay → Paced → Held → OwedRound
owed_round rates s p h = record {
  tick = tick_of h.now;
  granted = granted_to s h;
  asks = asks_in rates s p h;
  parts = parts s (offered_in p h);
}

abbrev pub owed_rounds : Rates → SessionWay → Paced → List Held → List OwedRound
owed_rounds rates s p [] = []
owed_rounds rates s p (h ∷ hs) = owed_round rates s p h ∷ owed_rounds rates s (after p h) hs
