-- The views of the round's seat and its relation to a desk, under names for callers.
use Rattle.std.specs.Prelude.{◌≡◌, List, Bool}
use Rattle.desk_rule.specs.declared.view.LaneView.{LaneView}
use Rattle.desk_rule.specs.declared.view.TraceView.{TraceView}
use Rattle.lane_desk.specs.declared.desk.Desk.{Desk}
use Rattle.lane_desk.specs.declared.round.RoundDesk.{RoundDesk}
use Rattle.lane_desk.specs.Seats.{desk_id}
use Rattle.lane_desk.specs.Held.{round_in}

module _ {N : Type 0} where
  abbrev pub traces : (RoundDesk N) → List TraceView
  traces r = (round_in r.seat.me.0).traces

  -- whether the round has answered a lane and not yet each other one that is due
  abbrev pub answering : (RoundDesk N) → Bool
  answering r = (round_in r.seat.me.0).answering

  abbrev pub back : (RoundDesk N) → List LaneView
  back r = (round_in r.seat.me.0).back

  abbrev pub IsRoundOf : {A : Type 0} → Desk N A → RoundDesk N → Type 0
  IsRoundOf d r = (r.seat.table_id ≡ desk_id d) × (r.lanes ≡ d.lanes)

  abbrev pub IsSameRound : (RoundDesk N) → (RoundDesk N) → Type 0
  IsSameRound r q = (q.seat.table_id ≡ r.seat.table_id) × (q.lanes ≡ r.lanes) × (back q ≡ back r)
