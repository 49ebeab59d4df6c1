-- Parts of the server with a name.
use Rattle.std.specs.Prelude.{◌≡◌, ℕ, ◌<◌, [], ◌⊎◌}
use Rattle.atomic_table.specs.Seated.{TableId}
use Rattle.lane_desk.specs.declared.desk.Desk.{Desk}
use Rattle.lane_desk.specs.declared.seat.LaneSeat.{LaneSeat}
use Rattle.lane_desk.specs.Seats.{desk_id}
use Rattle.lane_desk.specs.declared.round.RoundDesk.{RoundDesk}
use Rattle.lane_desk.specs.Traces.{back}
use Rattle.transfer_worker.specs.Boards.{board_id, done_by}
use Rattle.transfer_worker.specs.declared.board.BoardPass.{BoardPass}
use Rattle.transfer_worker.specs.declared.board.JobBoard.{JobBoard}
use Rattle.transfer_worker.specs.Order.{Popped, ShowsHeld}

-- a placeholder for a table, if no desk has the name
abbrev pub no_table : TableId
no_table =
    record {
      words = 0;
      slots = 0;
      views_name = 0;
      atom = 0;
      block = 0;
      offset = 0;
      slot_names = [];
    }

module _ {N : Type 0} where
  abbrev pub IsNamed : {A : Type 0} → TableId → ℕ → Desk N A → Type 0
  IsNamed table lanes desk = (desk_id desk ≡ table) × (desk.lanes ≡ lanes)

  -- a seat of that desk
  abbrev pub SitsAt : TableId → ℕ → LaneSeat N → Type 0
  SitsAt table lanes seat = (seat.seat.table_id ≡ table) × (seat.lane < lanes)

  -- the round's seat of that desk, before any seat was returned
  abbrev pub RoundsAt : TableId → ℕ → RoundDesk N → Type 0
  RoundsAt table lanes round =
      (round.seat.table_id ≡ table) × (round.lanes ≡ lanes) × (back round ≡ [])

module _ {J : Type 0} where
  abbrev pub IsBoardOf : {A : Type 0} → TableId → JobBoard J A → Type 0
  IsBoardOf table board = board_id board ≡ table

  abbrev pub IsPassOf : TableId → BoardPass J → Type 0
  IsPassOf table pass = pass.pass.table_id ≡ table

  -- nothing was done with the pass, whose board was empty at a moment
  abbrev pub HasNothing : BoardPass J → BoardPass J → Type 0
  HasNothing old new = (done_by new ≡ done_by old) × ShowsHeld 0 (done_by old)

  -- the job was taken by the first pass, and nothing was done with the other one; or by the other
  -- one, and the first board was empty at a moment
  abbrev pub IsFrom : J → BoardPass J → BoardPass J → BoardPass J → BoardPass J → Type 0
  IsFrom job first first_after other other_after =
      (Popped (done_by first) job (done_by first_after) × (done_by other_after ≡ done_by other))
      ⊎ (HasNothing first first_after × Popped (done_by other) job (done_by other_after))
