-- Events: their effects, answers and refusals.
use Rattle.std.specs.Prelude.{◌≡◌, ◌≢◌, ◌⊎◌, ℕ, ◌+◌, ◌-◌, ◌/◌, ◌<◌, ◌≤◌, List, length, map, slice_get, slice_set, Some, None, true, Result, MatchResult}
use Rattle.fair_terms.specs.Wants.{HasLargeUser}
use Rattle.grant_ledger.specs.declared.ledger.TheConstants.{MAX_ISSUED}
use Rattle.line_rates.specs.FloorSums.{FloorsFit}
use Rattle.line_rates.specs.Rates.{Rates}
use Rattle.line_rates.specs.TickTree.{ask_in}
use Rattle.world_terms.specs.declared.event.LaneState.TheVariants as state
use Rattle.world_terms.specs.declared.event.Event.{Event}
use Rattle.world_terms.specs.declared.event.Event.TheVariants as event
use Rattle.world_terms.specs.declared.event.EventAnswer.{EventAnswer}
use Rattle.world_terms.specs.declared.event.EventAnswer.TheVariants as answer
use Rattle.world_terms.specs.declared.fault.StepFault.{StepFault}
use Rattle.world_terms.specs.declared.fault.StepFault.TheVariants as fault
use Rattle.world_terms.specs.Decisions.{AllPosted, IsDecision, IsLater, IsReady, IsShared, decided_sum, has_large_want, in_round}
use Rattle.world_terms.specs.Lanes.{Hidden, Lane, World, hidden, amount}
use Rattle.world_terms.specs.Shown.{ShownStep}

-- the effect of an event on the hidden part of its lane
abbrev pub HiddenStep : Event → EventAnswer → Hidden → Hidden → Type 0
HiddenStep (event.Sit i) a x y = y ≡ x
HiddenStep (event.Asked i b) a x y = (x.hand ≡ None) × (y ≡ x)
HiddenStep (event.Collect i) a x y = y ≡ x
HiddenStep (event.Post i) (answer.Posted n) x y =
    (n ≡ amount x.decided) × (y ≡ hidden x.moved x.back x.hand None)
HiddenStep (event.Taken i) (answer.Taken n) x y = y ≡ hidden x.moved x.back (Some n) x.decided
HiddenStep (event.Moved i n) a x y =
    (h : ℕ) × (x.hand ≡ Some h) × (n ≤ h)
    × (y ≡ hidden (x.moved + n) (x.back + (h - n)) None x.decided)
HiddenStep (event.Rise i) a x y = (x.hand ≡ None) × (y ≡ x)
HiddenStep e a x y = ⊥

abbrev pub LaneStep : Event → EventAnswer → Lane → Lane → Type 0
LaneStep e a l m = ShownStep e a l.shown m.shown × HiddenStep e a l.hidden m.hidden

-- an event changes lane i, and nothing else
pub record IsChange (w : World) (i : ℕ) (e : Event) (a : EventAnswer) (w' : World) : Type 0 where
  pub before : Lane
  pub after : Lane
  pub there : slice_get w.lanes i ≡ Some before
  pub step : LaneStep e a before after
  pub rest : w'
      ≡ record { lanes = slice_set w.lanes i after; last_tick = w.last_tick; issued = w.issued }

-- an event that is not refused
abbrev pub Accepts : Rates → World → Event → EventAnswer → World → Type 0
Accepts rates w (event.Sit i) a w' = IsChange w i (event.Sit i) a w'
Accepts rates w (event.Asked i b) a w' = IsChange w i (event.Asked i b) a w'
Accepts rates w (event.Collect i) a w' = AllPosted w.lanes × IsChange w i (event.Collect i) a w'
Accepts rates w (event.Decide m) (answer.Decided t s) w' = IsDecision rates w m t s w'
Accepts rates w (event.Post i) a w' = IsChange w i (event.Post i) a w'
Accepts rates w (event.Taken i) a w' = IsChange w i (event.Taken i) a w'
Accepts rates w (event.Moved i n) a w' = IsChange w i (event.Moved i n) a w'
Accepts rates w (event.Rise i) a w' = IsChange w i (event.Rise i) a w'
Accepts rates w e a w' = ⊥

-- the refusals of a lane's own event
abbrev pub RefusesLane : Event → StepFault → Lane → Type 0
RefusesLane (event.Sit i) fault.WrongState l = l.shown.state ≢ state.Free
RefusesLane (event.Asked i a) fault.WrongState l =
    (l.shown.state ≢ state.Worker) ⊎ (l.hidden.hand ≢ None)
RefusesLane (event.Post i) fault.WrongState l = l.shown.state ≢ state.Round
RefusesLane (event.Post i) fault.Memory l = l.shown.state ≡ state.Round
RefusesLane (event.Taken i) fault.WrongState l = l.shown.state ≢ state.Granted
RefusesLane (event.Taken i) fault.Memory l = l.shown.state ≡ state.Granted
RefusesLane (event.Moved i n) fault.WrongState l = l.hidden.hand ≡ None
RefusesLane (event.Moved i n) fault.TooMuch l = (h : ℕ) × (l.hidden.hand ≡ Some h) × (h < n)
RefusesLane (event.Rise i) fault.WrongState l =
    (l.shown.state ≢ state.Worker) ⊎ (l.hidden.hand ≢ None)
RefusesLane e f l = ⊥

-- the lane of an event; 0 for a decision, which has none
abbrev pub lane_of : Event → ℕ
lane_of (event.Sit i) = i
lane_of (event.Asked i a) = i
lane_of (event.Collect i) = i
lane_of (event.Decide m) = 0
lane_of (event.Post i) = i
lane_of (event.Taken i) = i
lane_of (event.Moved i n) = i
lane_of (event.Rise i) = i

-- lane i exists, and P holds for it
pub record AtLane (w : World) (i : ℕ) (P : Lane → Type 0) : Type 0 where
  pub lane : Lane
  pub there : slice_get w.lanes i ≡ Some lane
  pub fact : P lane

-- fair grants would increase the octets issued above the most that a book issues
pub record PassesMost (rates : Rates) (w : World) (moment : ℕ) : Type 0 where
  pub lanes : List Lane
  pub shared : IsShared rates (moment / 100) w.lanes lanes
  pub above : MAX_ISSUED < w.issued + decided_sum lanes

-- the refusals of a decision
abbrev pub RefusesDecide : Rates → World → ℕ → StepFault → Type 0
RefusesDecide rates w m fault.WrongState = AllPosted w.lanes → ⊥
RefusesDecide rates w m (fault.NotYet last) =
    AllPosted w.lanes × (w.last_tick ≡ Some last) × (m / 100 ≤ last)
RefusesDecide rates w m fault.TooMuch =
    AllPosted w.lanes × IsLater (m / 100) w.last_tick × (has_large_want w.lanes ≡ true)
RefusesDecide rates w m fault.FloorsOver =
    IsReady w m × (FloorsFit rates (m / 100) (map ask_in (in_round w.lanes)) → ⊥)
RefusesDecide rates w m fault.Unshared =
    IsReady w m × HasLargeUser rates.share_by (map ask_in (in_round w.lanes))
RefusesDecide rates w m fault.Memory = IsReady w m
RefusesDecide rates w m fault.BookFull = IsReady w m × PassesMost rates w m
RefusesDecide rates w m fault.NoLane = ⊥

-- the refusals of a lane's event
abbrev pub RefusesEvent : World → Event → StepFault → Type 0
RefusesEvent w (event.Collect i) fault.WrongState = (i < length w.lanes) × (AllPosted w.lanes → ⊥)
RefusesEvent w e fault.NoLane = length w.lanes ≤ lane_of e
RefusesEvent w e f = AtLane w (lane_of e) (RefusesLane e f)

abbrev pub Refuses : Rates → World → Event → StepFault → Type 0
Refuses rates w (event.Decide m) f = RefusesDecide rates w m f
Refuses rates w e f = RefusesEvent w e f

-- an event leads from `w` to `w'`, with this reply; a refused one changes nothing
abbrev pub Step : Rates → World → Event → Result EventAnswer StepFault → World → Type 0
Step rates w e reply w' =
    MatchResult reply (λ a. Accepts rates w e a w') (λ f. (w' ≡ w) × Refuses rates w e f)
