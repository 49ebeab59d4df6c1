use Rattle.std.proofs.Common.{true}
use Rattle.lane_desk.specs.Seats.{desk_id}
use Rattle.transfer_worker.specs.Boards.{board_id}
use Rattle.transfer_tests.proofs.threads.one_transfer_waits_for_the_other.Given as goal

abbrev pub ghosts-work_both : goal.ghosts-work_both
ghosts-work_both g a = record { desk = desk_id a.opened.desk; lanes = 2; rates = λ _. true; carried = a.opened.rounds.book.issued; first = board_id a.first.board; board = board_id a.others.board }
