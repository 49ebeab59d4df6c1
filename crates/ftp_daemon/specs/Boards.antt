-- The boards of a server, and their passes.
use Rattle.std.specs.Prelude.{length}
use Rattle.atomic_table.specs.Seated.{TableId}
use Rattle.ftp_daemon.specs.declared.opening.NewBoards.{NewBoards}
use Rattle.ftp_daemon.specs.declared.opening.NewPasses.{NewPasses}
use Rattle.transfer_worker.specs.Boards.{AreNewPasses, board_id}

-- the passes belong to these two boards
abbrev pub ArePassesOf : TableId → TableId → NewPasses → Type 0
ArePassesOf first others passes =
    AreNewPasses first (length passes.first.items) passes.first.items
    × AreNewPasses others (length passes.others.items) passes.others.items

abbrev pub AreNewBoards : NewBoards → Type 0
AreNewBoards boards = ArePassesOf (board_id boards.first) (board_id boards.others) boards.passes
