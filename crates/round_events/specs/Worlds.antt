-- The world of the core before and after a round of the desk.
use Rattle.std.specs.Prelude.{◌≡◌, ◌≢◌, ℕ, List, length, slice_get, slice_index_or, Option, Some, None, Bool, true}
use Rattle.line_rates.specs.declared.ask.Ask.{Ask}
use Rattle.line_rates.specs.Rates.{Rates}
use Rattle.world_terms.specs.declared.event.Event.{Event}
use Rattle.world_terms.specs.declared.event.LaneState.TheVariants as state
use Rattle.world_terms.specs.Decisions.{IsPosted}
use Rattle.world_terms.specs.Lanes.{Lane, World, shown}
use Rattle.world_terms.specs.Runs.{IsRun}
use Rattle.desk_rule.specs.declared.view.TraceView.{TraceView}
use Rattle.lane_desk.specs.Posted.{trace_at}
use Rattle.round_events.specs.Events.{Reply}

-- Between rounds: the amounts posted on the lane are those of the round's view of it, no ask is
-- with the round, and nothing is decided and not posted.
pub record IsShownBy (t : TraceView) (l : Lane) : Type 0 where
  pub posted : l.shown.posted ≡ t.posted
  pub idle : l.shown.state ≢ state.Round
  pub settled : IsPosted l

-- the same for each lane of a world
pub record AreShownBy (ts : List TraceView) (ls : List Lane) : Type 0 where
  pub wide : length ls ≡ length ts
  pub each : (i : ℕ) (l : Lane) → slice_get ls i ≡ Some l → IsShownBy (trace_at ts i) l

-- The lane has the ask that was found on it; if it was tried and none was found, none waits there.
-- Of a lane that was not tried nothing is said.
abbrev pub IsFoundOn : Bool → Option Ask → Lane → Type 0
IsFoundOn given None l = given ≡ true → l.shown.state ≢ state.Asked
IsFoundOn given (Some a) l = (l.shown.state ≡ state.Asked) × (l.shown.ask ≡ Some a)

-- the same for each lane of a world
abbrev pub AreFoundOn : (ℕ → Bool) → List (Option Ask) → List Lane → Type 0
AreFoundOn given found ls =
    (i : ℕ) (l : Lane) → slice_get ls i ≡ Some l
    → IsFoundOn (given i) (slice_index_or found i None) l

-- the lane of an ask once it is answered: the amounts posted are those of the round's view
abbrev pub answered_lane : Ask → TraceView → Lane → Lane
answered_lane a t l =
    record { shown = shown state.Granted (Some a) t.posted l.shown.taken; hidden = l.hidden }

-- a lane before and after a round: unchanged if no ask was found on it, otherwise answered
abbrev pub IsLeft : Option Ask → TraceView → Lane → Lane → Type 0
IsLeft None t l m = m ≡ l
IsLeft (Some a) t l m = m ≡ answered_lane a t l

-- the same for each lane of a world
abbrev pub AreLeft : List (Option Ask) → List TraceView → List Lane → List Lane → Type 0
AreLeft found ts ls ms =
    (i : ℕ) (l : Lane) → slice_get ls i ≡ Some l
    → (m : Lane) × (slice_get ms i ≡ Some m)
    × IsLeft (slice_index_or found i None) (trace_at ts i) l m

-- These events, with these replies, lead from `w` to a world that shows each lane as the round
-- leaves it, with this last tick, and with these octets issued.
pub record LeadsOn (rates : ℕ → Rates) (w : World) (events : List Event) (replies : List Reply)
    (found : List (Option Ask)) (traces : List TraceView) (last : Option ℕ) (issued : ℕ) : Type 0
  where
    pub end : World
    pub run : IsRun rates w events replies end
    pub left : AreLeft found traces w.lanes end.lanes
    pub shown : AreShownBy traces end.lanes
    pub last_is : end.last_tick ≡ last
    pub issued_is : end.issued ≡ issued
