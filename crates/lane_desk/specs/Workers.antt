-- The seats of a desk, with their tallies.
use Rattle.std.specs.Prelude.{◌≡◌, ℕ, List, length, Some, slice_get}
use Rattle.std.specs.List.{sum_by}
use Rattle.atomic_table.specs.Seated.{TableId}
use Rattle.lane_desk.specs.declared.worked.Worked.{Worked}

module _ {N : Type 0} where
  -- the seats of this table's desk, in the order of its n lanes
  abbrev pub AreWorkers : TableId → ℕ → List (Worked N) → Type 0
  AreWorkers z n ws =
      (length ws ≡ n)
      × ((i : ℕ) (w : (Worked N)) → slice_get ws i ≡ Some w
      → (w.seat.lane ≡ i) × (w.seat.seat.table_id ≡ z))

  -- the octets moved in all of their tallies
  abbrev pub moved_by_all : List (Worked N) → ℕ
  moved_by_all ws = sum_by (λ w. w.tally.moved) ws
