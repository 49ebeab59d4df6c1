use Rattle.std.proofs.Common.{true}
use Rattle.lane_desk.specs.Seats.{desk_id}
use Rattle.lent_parts.specs.Names.{no_table}
use Rattle.transfer_tests.proofs.turns.texts_go_by_one_and_by_two_octets.Given as goal

abbrev pub ghosts-move_texts : goal.ghosts-move_texts
ghosts-move_texts g a = record { desk = desk_id a.opened.desk; lanes = 2; rates = λ _. true; carried = a.opened.rounds.book.issued; first = no_table; board = no_table }
