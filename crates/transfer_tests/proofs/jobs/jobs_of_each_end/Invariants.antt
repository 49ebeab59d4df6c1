use Rattle.std.proofs.Common.{true}
use Rattle.lane_desk.specs.Seats.{desk_id}
use Rattle.lent_parts.specs.Names.{no_table}
use Rattle.transfer_tests.proofs.jobs.jobs_of_each_end.Given as goal

abbrev pub ghosts-run_named : goal.ghosts-run_named
ghosts-run_named g a = record { desk = desk_id a.opened.desk; lanes = 2; rates = λ _. true; carried = a.opened.rounds.book.issued; first = no_table; board = no_table }
