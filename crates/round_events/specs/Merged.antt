-- The merge of the steps on the desk's table with what its threads have beside it.
use Rattle.std.specs.Prelude.{◌≡◌, ℕ, ◌+◌, ◌/◌, ◌<◌, nat_eq, if◌then◌else◌, List, [], ◌∷◌, flat_map, map, reverse, slice_get, sum, sum_by, Option, Some, None}
use Rattle.atomic_table.specs.Table.{State, opening}
use Rattle.line_rates.specs.Rates.{Rates}
use Rattle.world_terms.specs.declared.event.Event.TheVariants as event
use Rattle.world_terms.specs.declared.event.EventAnswer.TheVariants as answer
use Rattle.world_terms.specs.Lanes.{Hidden, new_world}
use Rattle.world_terms.specs.Runs.{IsRun}
use Rattle.desk_rule.specs.declared.view.DeskView.{DeskView}
use Rattle.desk_rule.specs.declared.view.DeskView.TheVariants.{Round}
use Rattle.desk_rule.specs.declared.view.LaneSlot.{LaneSlot}
use Rattle.desk_rule.specs.Lanes.{Kept, first_round}
use Rattle.desk_rule.specs.Steps.{Done, Ran}
use Rattle.round_events.specs.Desk.{DeskRuns, DeskState, done_event, done_reply, events_of, new_held, world_of}
use Rattle.round_events.specs.Results.{RoundDecision, RoundResult, RoundsFit, total_of}
use Rattle.round_events.specs.Spends.{SpendsFit}

-- a round's decision as a step of the desk, if it was not refused
abbrev pub decided_as : Option RoundDecision → List Done
decided_as None = []
decided_as (Some d) =
    Some (event.Decide d.moment, answer.Decided (d.moment / 100) (sum d.grants)) ∷ []

abbrev pub decision_of : RoundResult → List Done
decision_of r = decided_as r.decision

-- the decisions among these steps
abbrev pub decisions_in : List Done → List Done
decisions_in [] = []
decisions_in (Some (event.Decide m, a) ∷ ds) = Some (event.Decide m, a) ∷ decisions_in ds
decisions_in (d ∷ ds) = decisions_in ds

-- the octets moved on lane i by these steps, of one grant after another
abbrev pub moved_on : ℕ → List Done → List ℕ
moved_on i [] = []
moved_on i (Some (event.Moved j n, a) ∷ ds) =
    if nat_eq j i then n ∷ moved_on i ds else moved_on i ds
moved_on i (d ∷ ds) = moved_on i ds

-- the steps that are neither
abbrev pub table_steps : List Done → List Done
table_steps [] = []
table_steps (Some (event.Decide m, a) ∷ ds) = table_steps ds
table_steps (Some (event.Moved i n, a) ∷ ds) = table_steps ds
table_steps (d ∷ ds) = d ∷ table_steps ds

module _ {N : Type 0} where
  -- A run of the desk to table `s`, whose steps on the table are these, whose decisions are those
  -- of these rounds, and which moves these octets of the grants taken on each lane. The octets
  -- issued are more by the sum of the rounds' totals.
  pub record IsMerged (rates : ℕ → Rates) (start : DeskState N) (ds : List Done)
      (rounds : List RoundResult) (spent : ℕ → List ℕ)
      (s : State (LaneSlot N) DeskView) : Type 0 where
    pub steps : List Done
    pub end : DeskState N
    pub runs : DeskRuns rates start steps end
    pub table : end.table ≡ s
    pub same : table_steps steps ≡ ds
    pub decided : decisions_in steps ≡ flat_map decision_of rounds
    pub moved : (i : ℕ) → moved_on i steps ≡ spent i
    pub issued : end.held.issued ≡ start.held.issued + sum_by total_of rounds

  -- the table as it was opened
  abbrev pub opened_table : {s : State (LaneSlot N) DeskView} → Ran s → State (LaneSlot N) DeskView
  opened_table r = opening r.words r.slots (Round (first_round r.lanes))

  -- and nothing beside it
  abbrev pub opened_desk : {s : State (LaneSlot N) DeskView} → Ran s → DeskState N
  opened_desk r = record { table = opened_table r; held = new_held r.lanes }

-- Each list of steps of the desk's table, by all its threads in any order, is merged with the
-- decisions of its rounds and the spending of its grants, if these fit it: there is a list of the
-- desk's steps with all of them.
abbrev pub RunsAreMerged : Type 0 → Type 0
RunsAreMerged N =
    (rates : ℕ → Rates) (s : State (LaneSlot N) DeskView) (r : Ran s) (rounds : List RoundResult)
    (spent : ℕ → List ℕ) → Kept (opened_table r) → RoundsFit rates rounds (reverse r.past)
    → SpendsFit spent (reverse r.past)
    → IsMerged rates (opened_desk r) (reverse r.past) rounds spent s

-- Each such list is a run of the core from a new world, of the same events with the same answers.
abbrev pub MergedIsRun : Type 0 → Type 0
MergedIsRun N =
    (rates : ℕ → Rates) (s : State (LaneSlot N) DeskView) (r : Ran s) (rounds : List RoundResult)
    (spent : ℕ → List ℕ) → Kept (opened_table r)
    → (m : IsMerged rates (opened_desk r) (reverse r.past) rounds spent s)
    → (k : Kept m.end.table)
    × IsRun rates (new_world r.lanes) (map done_event (events_of m.steps))
    (map done_reply (events_of m.steps)) (world_of k m.end.held)

-- At its end, the octets moved on each lane are the sum of those of its grants.
abbrev pub MergedMoves : Type 0 → Type 0
MergedMoves N =
    (rates : ℕ → Rates) (s : State (LaneSlot N) DeskView) (r : Ran s) (rounds : List RoundResult)
    (spent : ℕ → List ℕ) (m : IsMerged rates (opened_desk r) (reverse r.past) rounds spent s)
    (i : ℕ) → i < r.lanes
    → (x : Hidden) × (slice_get m.end.held.lanes i ≡ Some x) × (x.moved ≡ sum (spent i))
