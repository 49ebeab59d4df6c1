-- The effect of an event on its lane, with its reply.
use Rattle.std.specs.Prelude.{◌≡◌, Bool, true, false, Option, Some, None, Result, MatchResult}
use Rattle.line_rates.specs.declared.ask.Ask.{Ask}
use Rattle.world_terms.specs.declared.event.LaneState.{LaneState}
use Rattle.world_terms.specs.declared.event.LaneState.TheVariants as state
use Rattle.world_terms.specs.declared.event.Event.{Event}
use Rattle.world_terms.specs.declared.event.Event.TheVariants as event
use Rattle.world_terms.specs.declared.event.EventAnswer.{EventAnswer}
use Rattle.world_terms.specs.declared.fault.StepFault.{StepFault}
use Rattle.world_terms.specs.Lanes.{Lane}
use Rattle.world_terms.specs.Steps.{LaneStep, RefusesLane}

abbrev pub LaneReply : Event → Result EventAnswer StepFault → Lane → Lane → Type 0
LaneReply e r l m = MatchResult r (λ a. LaneStep e a l m) (λ f. (m ≡ l) × RefusesLane e f l)

abbrev pub is_decide : Event → Bool
is_decide (event.Decide m) = true
is_decide e = false

abbrev pub is_collect : Event → Bool
is_collect (event.Collect i) = true
is_collect e = false

abbrev pub due_in : LaneState → Option Ask → Option Ask
due_in state.Round ask = ask
due_in s ask = None

-- the ask of a lane in Round
abbrev pub due_ask : Lane → Option Ask
due_ask l = due_in l.shown.state l.shown.ask

-- a lane in Round has an ask
abbrev pub HasAsk : Lane → Type 0
HasAsk l = l.shown.state ≡ state.Round → (a : Ask) × (l.shown.ask ≡ Some a)
