-- The lists of a closed desk, for all lanes.
use Rattle.std.specs.Prelude.{◌≡◌, ℕ, ◌+◌, List, length, Some, slice_get, slice_index_or, sum}
use Rattle.std.specs.List.{sum_by}
use Rattle.atomic_table.specs.Seated.{TableId}
use Rattle.grant_ledger.specs.Books.{capped}
use Rattle.desk_rule.specs.declared.view.LaneView.{LaneView}
use Rattle.desk_rule.specs.declared.view.TraceView.{TraceView}
use Rattle.lane_desk.specs.declared.seat.LaneSeat.{LaneSeat}
use Rattle.desk_rule.specs.Lanes.{fresh, untraced}
use Rattle.lane_desk.specs.Seats.{seat_view}
use Rattle.lane_desk.specs.Close.{Closes}

module _ {N : Type 0} where
  -- the desk's seats, in the order of their lanes
  abbrev pub AreSeats : TableId → ℕ → List (LaneSeat N) → Type 0
  AreSeats z n seats =
      (length seats ≡ n)
      × ((i : ℕ) (s : (LaneSeat N)) → slice_get seats i ≡ Some s
      → (s.lane ≡ i) × (s.seat.table_id ≡ z))

  -- each lane was closed, from what the round and the seat knew of it
  abbrev pub AllClosed :
      List TraceView → List (LaneSeat N) → List TraceView → List LaneView → Type 0
  AllClosed ts seats ts' xs' =
      (length xs' ≡ length seats)
      × ((i : ℕ) (s : (LaneSeat N)) → slice_get seats i ≡ Some s
      → (n : ℕ) × Closes (slice_index_or ts i untraced) (seat_view s)
      (slice_index_or ts' i untraced) (slice_index_or xs' i fresh) n)

abbrev pub taken_in_all : List LaneView → ℕ
taken_in_all xs = sum_by (λ x. sum x.taken) xs

module _ {N : Type 0} where
  abbrev pub taken_by_all : List (LaneSeat N) → ℕ
  taken_by_all seats = sum_by (λ s. sum (seat_view s).taken) seats

  -- the octets taken in the lists beyond those that the seats took were given back: a tally's sum
  -- of them, which saturates at the greatest u64
  abbrev pub GivesBack : ℕ → ℕ → List (LaneSeat N) → List LaneView → Type 0
  GivesBack old new seats xs' =
      (n : ℕ) × (taken_in_all xs' ≡ taken_by_all seats + n) × (new ≡ capped old n)
