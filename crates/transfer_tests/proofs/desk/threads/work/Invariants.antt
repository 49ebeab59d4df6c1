use Rattle.lane_desk.specs.Seats.{IsSameSeat}
use Rattle.transfer_tests.proofs.desk.threads.work.Given as goal

abbrev pub invariant-loop : goal.invariant-loop
invariant-loop l = IsSameSeat l.fn.own.seat l.own.seat
