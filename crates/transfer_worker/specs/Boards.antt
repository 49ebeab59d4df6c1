-- Words for clauses on boards and passes.
use Rattle.std.specs.Prelude.{◌≡◌, ℕ, List, [], length, Some, slice_get}
use Rattle.atomic_table.specs.Seated.{TableId}
use Rattle.crossbeam_queue.specs.Passes.{view, ruled_capacity}
use Rattle.transfer_worker.specs.declared.board.JobBoard.{JobBoard}
use Rattle.transfer_worker.specs.declared.board.BoardPass.{BoardPass}
use Rattle.transfer_worker.specs.declared.order.Hand.{Hand}
use Rattle.transfer_worker.specs.Order.{hand}

module _ {J : Type 0} where
  -- the operations of a pass so far
  abbrev pub done_by : BoardPass J → Hand J
  done_by p = view p.pass

  -- the two passes belong to the same board, and have the same number
  abbrev pub IsSameBoard : BoardPass J → BoardPass J → Type 0
  IsSameBoard old new = (new.pass.table_id ≡ old.pass.table_id) × (new.pass.id ≡ old.pass.id)

  -- this many passes of one board, which have done nothing
  abbrev pub AreNewPasses : TableId → ℕ → List (BoardPass J) → Type 0
  AreNewPasses z count passes = (length passes ≡ count)
      × ((i : ℕ) (p : BoardPass J) → slice_get passes i ≡ Some p
      → (p.pass.table_id ≡ z) × (done_by p ≡ hand [] []))

module _ {J A : Type 0} where
  abbrev pub board_id : JobBoard J A → TableId
  board_id board = board.queue.table.shared.table_id

  -- the pass belongs to this board
  abbrev pub IsOfBoard : JobBoard J A → BoardPass J → Type 0
  IsOfBoard board p = p.pass.table_id ≡ board_id board

  -- number of jobs that the board has room for
  abbrev pub places : JobBoard J A → ℕ
  places board = ruled_capacity board.queue
