-- Runs of the desk: steps on its table, and what its threads hold beside it.
use Rattle.std.specs.Prelude.{◌≡◌, ℕ, suc, ◌+◌, ◌/◌, ◌<◌, ◌≤◌, nat_eq, if◌then◌else◌, Bool, cond, List, [], ◌∷◌, length, map, replicate, sum, All, slice_get, slice_index, slice_set, Option, Some, None, Ok}
use Rattle.std.specs.List.{filter_map}
use mathlib.Core.Option.{some}
use lib.ListN.{get_elem?}
use Rattle.atomic_table.specs.Table.{State, opening}
use Rattle.grant_ledger.specs.declared.ledger.TheConstants.{MAX_ISSUED}
use Rattle.fair_terms.specs.Fair.{IsFair}
use Rattle.limit_tree.specs.Sharing.{LimitTree}
use Rattle.line_rates.specs.declared.ask.Ask.{Ask}
use Rattle.line_rates.specs.Rates.{Rates}
use Rattle.share_world.specs.Shares.{IsFairPlan}
use Rattle.world_terms.specs.declared.event.Event.{Event}
use Rattle.world_terms.specs.declared.event.Event.TheVariants as event
use Rattle.world_terms.specs.declared.event.EventAnswer.{EventAnswer}
use Rattle.world_terms.specs.declared.event.EventAnswer.TheVariants as answer
use Rattle.world_terms.specs.Decisions.{IsLater}
use Rattle.world_terms.specs.Lanes.{Hidden, Shown, World, hidden, new_world}
use Rattle.world_terms.specs.Lanes as core
use Rattle.world_terms.specs.Runs.{IsRun}
use Rattle.world_terms.specs.Steps.{HiddenStep, lane_of}
use Rattle.desk_rule.specs.declared.view.DeskView.{DeskView}
use Rattle.desk_rule.specs.declared.view.DeskView.TheVariants.{Round}
use Rattle.desk_rule.specs.declared.view.LaneSlot.{LaneSlot}
use Rattle.desk_rule.specs.declared.view.RoundView.{RoundView}
use Rattle.desk_rule.specs.declared.view.TraceView.{TraceView}
use Rattle.desk_rule.specs.Events.{HasLane, HasTraces}
use Rattle.desk_rule.specs.Lanes.{Kept, first_round, is_due}
use Rattle.desk_rule.specs.Shown.{last_of, shown_in}
use Rattle.desk_rule.specs.Steps.{Done, SilentStep, TableStep}
use Rattle.lane_desk.specs.Posted.{AllAnswered}
use Rattle.lane_desk.specs.Rounded.{IsRoundOver}
use Rattle.lane_desk.specs.Tried.{asks_from, tried}
use Rattle.round_events.specs.Events.{Reply}
use Rattle.round_events.specs.Rounds.{AreSmall}
use Rattle.round_events.specs.Worlds.{AreShownBy}

-- The parts that words and views do not show: the octets that each lane's worker moved, gave back
-- and has in hand, and the amount decided for the lane and not posted; the book's last tick and
-- octets issued.
pub record Holdings : Type 0 where
  pub lanes : List Hidden
  pub last_tick : Option ℕ
  pub issued : ℕ

abbrev pub held_lanes : List Hidden → Holdings → Holdings
held_lanes xs h = record { lanes = xs; last_tick = h.last_tick; issued = h.issued }

-- the lanes with these hidden parts; the first has number k
abbrev pub lanes_by : (ℕ → Shown) → ℕ → List Hidden → List core.Lane
lanes_by f k [] = []
lanes_by f k (x ∷ xs) = record { shown = f k; hidden = x } ∷ lanes_by f (suc k) xs

-- no amount is decided and not posted
abbrev pub NoneDecided : List Hidden → Type 0
NoneDecided xs = All (λ x. x.decided ≡ None) xs

-- the ask that the round has collected from a lane and not answered, by its view of the lane
abbrev pub due_ask : TraceView → Option Ask
due_ask t = cond (is_due t) (last_of t.collected) None

-- the grant of the first of these lanes with that number
abbrev pub grant_on : List ℕ → List ℕ → ℕ → Option ℕ
grant_on [] grants i = None
grant_on (lane ∷ lanes) [] i = None
grant_on (lane ∷ lanes) (n ∷ grants) i =
    if nat_eq lane i then Some n else grant_on lanes grants i

-- these amounts are decided for the lanes; the first has number k
abbrev pub decided_by : (ℕ → Option ℕ) → ℕ → List Hidden → List Hidden
decided_by f k [] = []
decided_by f k (x ∷ xs) = hidden x.moved x.back x.hand (f k) ∷ decided_by f (suc k) xs

-- A decision at a moment in milliseconds, by a round that knows these turns: fair grants of a plan
-- for the asks that it has collected and not answered, entered into the book.
pub record HoldsDecision (rates : Rates) (traces : List TraceView) (moment tick total : ℕ)
    (h h' : Holdings) : Type 0 where
  pub tree : LimitTree
  pub lanes : List ℕ
  pub grants : List ℕ
  pub shares : IsFairPlan rates (moment / 100) (asks_from 0 (map due_ask traces)) tree lanes grants
  pub small : AreSmall (asks_from 0 (map due_ask traces))
  pub posted : NoneDecided h.lanes
  pub later : IsLater (moment / 100) h.last_tick
  pub tick_is : tick ≡ moment / 100
  pub total_is : total ≡ sum grants
  pub room : h.issued + total ≤ MAX_ISSUED
  pub rest : h'
      ≡ record {
        lanes = decided_by (grant_on lanes grants) 0 h.lanes;
        last_tick = Some tick;
        issued = h.issued + total;
      }

-- the effect of a lane's event on what is held
pub record HoldStep (e : Event) (a : EventAnswer) (h h' : Holdings) : Type 0 where
  pub before : Hidden
  pub after : Hidden
  pub there : slice_get h.lanes (lane_of e) ≡ Some before
  pub step : HiddenStep e a before after
  pub rest : h' ≡ held_lanes (slice_set h.lanes (lane_of e) after) h

-- the table of the desk, and what is held beside it
pub record DeskState (N : Type 0) : Type 0 where
  pub table : State (LaneSlot N) DeskView
  pub held : Holdings

module _ {N : Type 0} where
  -- the world that a table and what is held beside it are
  abbrev pub world_of : {s : State (LaneSlot N) DeskView} → Kept s → Holdings → World
  world_of r h =
      record {
        lanes = lanes_by (shown_in r) 0 h.lanes;
        last_tick = h.last_tick;
        issued = h.issued;
      }

  -- A decision of a round: the table stays, and the round's seat knows these turns.
  pub record DecideStep (rates : Rates) (moment tick total : ℕ) (x y : DeskState N) : Type 0 where
    pub seat : ℕ
    pub view : RoundView
    pub there : get_elem? x.table.views seat ≡ some (Round view)
    pub holds : HoldsDecision rates view.traces moment tick total x.held y.held
    pub still : y.table ≡ x.table

  -- One step of the desk, by any of its threads; a decision is under the rates of its tick. A round
  -- tries a lane only if all amounts decided are posted.
  abbrev pub DeskStep : (ℕ → Rates) → Done → DeskState N → DeskState N → Type 0
  DeskStep rates None x y = SilentStep x.table y.table × (y.held ≡ x.held)
  DeskStep rates (Some (event.Decide m, answer.Decided tick total)) x y =
      DecideStep (rates (m / 100)) m tick total x y
  DeskStep rates (Some (event.Moved i n, answer.Done)) x y =
      (y.table ≡ x.table) × HoldStep (event.Moved i n) answer.Done x.held y.held
  DeskStep rates (Some (event.Collect i, a)) x y =
      TableStep (event.Collect i) a x.table y.table × HoldStep (event.Collect i) a x.held y.held
      × NoneDecided x.held.lanes
  DeskStep rates (Some (e, a)) x y = TableStep e a x.table y.table × HoldStep e a x.held y.held

  -- these steps, the oldest first, lead from `x` to `z`
  abbrev pub DeskRuns : (ℕ → Rates) → DeskState N → List Done → DeskState N → Type 0
  DeskRuns rates x [] z = z ≡ x
  DeskRuns rates x (d ∷ ds) z = (y : DeskState N) × DeskStep rates d x y × DeskRuns rates y ds z

abbrev pub done_event : Event × EventAnswer → Event
done_event d = d.0

abbrev pub done_reply : Event × EventAnswer → Reply
done_reply d = Ok d.1

-- the steps that are events
abbrev pub events_of : List Done → List (Event × EventAnswer)
events_of ds = filter_map (λ d. d) ds

-- Every list of steps of the desk is a run of the core: of the same events, with the same answers,
-- between the worlds that the table and the holdings are. The steps are those of `desk_rule`, in
-- any order, with decisions and the spending of grants between them.
abbrev pub DeskRunsAreRuns : Type 0 → Type 0
DeskRunsAreRuns N =
    (rates : ℕ → Rates) (x : DeskState N) (ds : List Done) (z : DeskState N) (r : Kept x.table)
    → length x.held.lanes ≡ length x.table.homes → DeskRuns rates x ds z
    → (r' : Kept z.table) × (length z.held.lanes ≡ length z.table.homes)
    × IsRun rates (world_of r x.held) (map done_event (events_of ds))
    (map done_reply (events_of ds)) (world_of r' z.held)

-- The part of a lane that a table shows is one, whatever proof of its rule is given, if the seat of
-- the lane and that of the round are there.
abbrev pub ShownIsOne : Type 0 → Type 0
ShownIsOne N =
    (s : State (LaneSlot N) DeskView) (r r' : Kept s) (i j k : ℕ) (v w : DeskView)
    → HasLane s j i v → HasTraces s k i w → shown_in r' i ≡ shown_in r i

-- nothing was moved, given back, taken or decided
abbrev pub new_held : ℕ → Holdings
new_held k = record { lanes = replicate k (hidden 0 0 None None); last_tick = None; issued = 0 }

-- A desk of k lanes that was just opened is a new world.
abbrev pub OpenedIsNew : Type 0 → Type 0
OpenedIsNew N =
    (words : List ℕ) (slots : List (LaneSlot N)) (k : ℕ) → length slots ≡ k
    → (r : Kept (opening words slots (Round (first_round k))))
    → world_of r (new_held k) ≡ new_world k

-- Between rounds, the world that a table and the holdings are shows the round's views of the lanes.
abbrev pub TablesAreShown : Type 0 → Type 0
TablesAreShown N =
    (s : State (LaneSlot N) DeskView) (r : Kept s) (h : Holdings) (seat : ℕ) (v : RoundView)
    → get_elem? s.views seat ≡ some (Round v) → AllAnswered v.traces → NoneDecided h.lanes
    → length h.lanes ≡ length s.homes → AreShownBy v.traces (world_of r h).lanes

-- After the tries of a round that has answered all earlier asks, the asks that are due are those
-- found.
abbrev pub TriedAreDue : Type 0
TriedAreDue =
    (given : ℕ → Bool) (found : List (Option Ask)) (old : List TraceView)
    → length found ≡ length old → AllAnswered old → map due_ask (tried given found old) ≡ found

-- the holdings after a decision of these grants for these lanes
abbrev pub after_decision : ℕ → List ℕ → List ℕ → Holdings → Holdings
after_decision tick lanes grants h =
    record {
      lanes = decided_by (grant_on lanes grants) 0 h.lanes;
      last_tick = Some tick;
      issued = h.issued + sum grants;
    }

-- So a round, made after its tries, is such a decision, and each leaf's grant is the amount decided
-- for the leaf's lane, which a Post of that lane replies.
abbrev pub RoundDecides : Type 0
RoundDecides =
    (given : ℕ → Bool) (rates : Rates) (moment : ℕ) (old new : List TraceView) (answered : ℕ)
    (t : LimitTree) (lanes : List ℕ) (asks : List Ask) (grants : List ℕ) (h : Holdings)
    (r : IsRoundOver given rates (moment / 100) old new answered t lanes asks grants)
    → AllAnswered old → AreSmall (asks_from 0 r.found) → IsFair rates.share_by asks t grants
    → NoneDecided h.lanes → IsLater (moment / 100) h.last_tick → h.issued + sum grants ≤ MAX_ISSUED
    → HoldsDecision rates (tried given r.found old) moment (moment / 100) (sum grants) h
    (after_decision (moment / 100) lanes grants h)
    × ((j : ℕ) → j < length lanes
    → grant_on lanes grants (slice_index lanes j) ≡ Some (slice_index grants j))
