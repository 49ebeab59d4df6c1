-- A newly opened desk.
use Rattle.std.specs.Prelude.{◌≡◌, ℕ, ◌<◌, ◌≤◌, List, length, Some, slice_get}
use Rattle.atomic_table.specs.Seated.{TableId}
use Rattle.grant_ledger.specs.declared.ledger.TheConstants.{MAX_LANES}
use Rattle.desk_rule.specs.Lanes.{fresh}
use Rattle.lane_desk.specs.declared.seat.LaneSeat.{LaneSeat}
use Rattle.lane_desk.specs.Seats.{seat_view}
use Rattle.lane_desk.specs.declared.fault.DeskFault.{DeskFault}
use Rattle.lane_desk.specs.declared.fault.DeskFault.TheVariants.{TooMany, Memory}

module _ {N : Type 0} where
  -- a seat for each lane, in order, on which nothing has been done
  abbrev pub AreFresh : TableId → ℕ → List (LaneSeat N) → Type 0
  AreFresh z n seats =
      (length seats ≡ n)
      × ((i : ℕ) (s : LaneSeat N) → slice_get seats i ≡ Some s
      → (s.lane ≡ i) × (s.seat.table_id ≡ z) × (seat_view s ≡ fresh))

-- why no desk of this many lanes was opened
abbrev pub IsNotOpened : ℕ → DeskFault → Type 0
IsNotOpened lanes TooMany = MAX_LANES < lanes
IsNotOpened lanes Memory = lanes ≤ MAX_LANES
