use Rattle.lane_desk.specs.Seats.{desk_id}
use Rattle.ftp_daemon.specs.SameRates.{may_hold}
use Rattle.transfer_worker.specs.Boards.{board_id}
use Rattle.ftp_daemon.proofs.serving.serve_booked.Given as goal

abbrev pub ghosts-serve_named : goal.ghosts-serve_named
ghosts-serve_named g a = record {
  desk = desk_id a.line.desk;
  lanes = a.line.desk.lanes;
  rates = may_hold a.service.limits g.P.OwnerSigns.allows;
  carried = a.line.book.issued;
  first = board_id a.boards.first;
  board = board_id a.boards.others;
}
