-- The steps of the desk's table, and lists of them: of all its threads, in any order.
use Rattle.std.specs.Prelude.{◌≡◌, ◌≢◌, ◌⊎◌, ℕ, ◌+◌, ◌<◌, ◌≤◌, List, [], ◌∷◌, ◌++◌, length, slice_index, slice_set, Option, Some, None, false}
use mathlib.Core.Option.{none, some}
use lib.ListN.{get_elem?}
use Rattle.atomic_table.specs.Table.{State, opening}
use Rattle.grant_ledger.specs.Books.{GrantView}
use Rattle.line_rates.specs.declared.ask.Ask.{Ask}
use Rattle.world_terms.specs.declared.event.Event.{Event}
use Rattle.world_terms.specs.declared.event.Event.TheVariants as event
use Rattle.world_terms.specs.declared.event.EventAnswer.{EventAnswer}
use Rattle.world_terms.specs.declared.event.EventAnswer.TheVariants as answer
use Rattle.desk_rule.specs.declared.view.DeskView.{DeskView}
use Rattle.desk_rule.specs.declared.view.DeskView.TheVariants.{Lane, Round, Spent}
use Rattle.desk_rule.specs.declared.view.LaneSlot.{LaneSlot}
use Rattle.desk_rule.specs.declared.view.LaneSlot.TheVariants.{Blank, WithAsk, WithGrant}
use Rattle.desk_rule.specs.declared.view.LaneView.{LaneView}
use Rattle.desk_rule.specs.declared.view.RoundView.{RoundView}
use Rattle.desk_rule.specs.declared.view.SeatState.TheVariants.{Free, Worker}
use Rattle.desk_rule.specs.Events.{HasLane, HasTraces, after, noted}
use Rattle.desk_rule.specs.Lanes.{Kept, first_round, dealer_after, dealt_to, taken_in, lane_in, with_lane, trace_in, with_trace, with_answer, is_answering, posted_by, most, sat_down, has_asked, has_taken, has_looked, has_risen, has_missed, has_collected, has_posted}

-- an event with its answer, if a step is one
abbrev pub Done : Type 0
Done = Option (Event × EventAnswer)

module _ {N : Type 0} where
  -- the table with other views of its seats
  abbrev pub with_views : State (LaneSlot N) DeskView → List DeskView → State (LaneSlot N) DeskView
  with_views s vs = record { words = s.words; homes = s.homes; views = vs }

  -- A step of a seat on the table that is this event, with this answer, as `desk_rule` has it. A
  -- round tries no lane while it is answering.
  abbrev pub TableStep : Event → EventAnswer → State (LaneSlot N) DeskView
      → State (LaneSlot N) DeskView → Type 0
  TableStep (event.Sit i) answer.Done s s' =
      (id : ℕ) × (v : DeskView) × HasLane s id i v × ((lane_in i v).state ≡ Free)
      × (s' ≡ after s i 1 none id (with_lane i (sat_down (lane_in i v)) v))
  TableStep (event.Asked i a) answer.Done s s' =
      (id : ℕ) × (v : DeskView) × HasLane s id i v × ((lane_in i v).state ≡ Worker)
      × (s' ≡ after s i 2 (some (WithAsk a)) id (with_lane i (has_asked a (lane_in i v)) v))
  TableStep (event.Collect i) answer.Got s s' =
      (id : ℕ) × (v : DeskView) × (a : Ask) × HasTraces s id i v × (slice_index s.words i ≡ 2)
      × (get_elem? s.homes i ≡ some (some (WithAsk a))) × (is_answering v ≡ false)
      × (s' ≡ after s i 3 none id (with_trace i (has_collected a (trace_in i v)) v))
  TableStep (event.Collect i) answer.Missed s s' =
      (id : ℕ) × (v : DeskView) × HasTraces s id i v × (slice_index s.words i ≢ 2)
      × (is_answering v ≡ false)
      × (s' ≡ noted s id (with_trace i (has_missed (trace_in i v)) v))
  TableStep (event.Post i) (answer.Posted n) s s' =
      (id : ℕ) × (v : DeskView) × (g : GrantView) × HasTraces s id i v
      × (length (trace_in i v).collected ≡ length (trace_in i v).posted + 1) × (g.lane ≡ i)
      × (posted_by v + g.octets ≤ most) × (g.octets ≡ n)
      × (s' ≡ after s i 4 (some (WithGrant g)) id
      (with_answer i (has_posted g.octets (trace_in i v)) v))
  TableStep (event.Taken i) (answer.Taken n) s s' =
      (id : ℕ) × (v : DeskView) × (g : GrantView) × HasLane s id i v × (slice_index s.words i ≡ 4)
      × (get_elem? s.homes i ≡ some (some (WithGrant g))) × (g.octets ≡ n)
      × (s' ≡ after s i 1 none id (with_lane i (has_taken g.octets (lane_in i v)) v))
  TableStep (event.Rise i) answer.Done s s' =
      (id : ℕ) × (v : DeskView) × HasLane s id i v × ((lane_in i v).state ≡ Worker)
      × (s' ≡ after s i 0 (some Blank) id (with_lane i (has_risen (lane_in i v)) v))
  TableStep e a s s' = ⊥

  -- a take that finds nothing
  abbrev pub LookStep : State (LaneSlot N) DeskView → State (LaneSlot N) DeskView → Type 0
  LookStep s s' =
      (id : ℕ) × (i : ℕ) × (v : DeskView) × HasLane s id i v × (slice_index s.words i ≢ 4)
      × (s' ≡ noted s id (with_lane i (has_looked (lane_in i v)) v))

  -- the seat of the next lane is split off the round's
  abbrev pub DealStep : State (LaneSlot N) DeskView → State (LaneSlot N) DeskView → Type 0
  DealStep s s' =
      (id : ℕ) × (v : RoundView) × (get_elem? s.views id ≡ some (Round v))
      × (v.dealt < length v.traces)
      × (s' ≡ with_views s
      (slice_set s.views id (dealer_after (Round v)) ++ dealt_to (Round v) ∷ []))

  -- the seat of the next lane is joined to the round's
  abbrev pub GatherStep : State (LaneSlot N) DeskView → State (LaneSlot N) DeskView → Type 0
  GatherStep s s' =
      (id : ℕ) × (v : RoundView) × (other : ℕ) × (w : LaneView)
      × (get_elem? s.views id ≡ some (Round v)) × (other ≢ id)
      × (get_elem? s.views other ≡ some (Lane (length v.back) w))
      × (s' ≡ with_views s
      (slice_set (slice_set s.views id (taken_in (Round v) (Lane (length v.back) w))) other Spent))

  -- a step that is no event
  abbrev pub SilentStep : State (LaneSlot N) DeskView → State (LaneSlot N) DeskView → Type 0
  SilentStep s s' = LookStep s s' ⊎ (DealStep s s' ⊎ GatherStep s s')

  -- one step of the table: an event with its answer, or none
  abbrev pub StepOn : Done → State (LaneSlot N) DeskView → State (LaneSlot N) DeskView → Type 0
  StepOn None s s' = SilentStep s s'
  StepOn (Some (e, a)) s s' = TableStep e a s s'

  -- these steps, the newest first, lead from one table to another
  abbrev pub TableRuns : State (LaneSlot N) DeskView → List Done → State (LaneSlot N) DeskView
      → Type 0
  TableRuns s [] t = t ≡ s
  TableRuns s (d ∷ past) t = (u : State (LaneSlot N) DeskView) × TableRuns s past u × StepOn d u t

  -- The rule of the table: what is kept, and the list of all steps since it was opened, by which
  -- it is as it is.
  pub record Ran (s : State (LaneSlot N) DeskView) : Type 0 where
    pub kept : Kept s
    pub words : List ℕ
    pub slots : List (LaneSlot N)
    pub lanes : ℕ
    pub long : length slots ≡ lanes
    pub past : List Done
    pub ran : TableRuns (opening words slots (Round (first_round lanes))) past s
