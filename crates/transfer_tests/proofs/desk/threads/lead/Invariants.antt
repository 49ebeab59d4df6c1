use Rattle.lane_desk.specs.Traces.{IsSameRound}
use Rattle.transfer_tests.proofs.desk.threads.lead.Given as goal

abbrev pub invariant-loop-tick : goal.invariant-loop-tick
invariant-loop-tick l = IsSameRound l.fn.rounds.desk l.rounds.desk
