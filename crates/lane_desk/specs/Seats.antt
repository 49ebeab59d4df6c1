-- The view of a lane's seat and its relation to a desk, under names for callers.
use Rattle.std.specs.Prelude.{◌≡◌, ◌<◌}
use Rattle.atomic_table.specs.Seated.{TableId}
use Rattle.desk_rule.specs.declared.view.LaneView.{LaneView}
use Rattle.desk_rule.specs.Lanes.{lane_in}
use Rattle.lane_desk.specs.declared.desk.Desk.{Desk}
use Rattle.lane_desk.specs.declared.seat.LaneSeat.{LaneSeat}

module _ {N A : Type 0} where
  abbrev pub desk_id : Desk N A → TableId
  desk_id d = d.table.shared.table_id

module _ {N : Type 0} where
  abbrev pub seat_view : LaneSeat N → LaneView
  seat_view s = lane_in s.lane s.seat.me.0

  abbrev pub IsSeatOf : {A : Type 0} → Desk N A → LaneSeat N → Type 0
  IsSeatOf d s = (s.seat.table_id ≡ desk_id d) × (s.lane < d.lanes)

  abbrev pub IsSameSeat : LaneSeat N → LaneSeat N → Type 0
  IsSameSeat s t = (t.seat.table_id ≡ s.seat.table_id) × (t.lane ≡ s.lane)
