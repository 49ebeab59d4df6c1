use Rattle.std.proofs.Common.{◌≡◌, ◌+◌, ◌++◌, List, length, reverse}
use Rattle.lane_desk.specs.declared.worked.Worked.{Worked}
use Rattle.desk_rule.specs.Lanes.{posted_in}
use Rattle.lane_desk.specs.Traces.{traces, back, IsRoundOf}
use Rattle.lane_desk.specs.Close.{AllSettled}
use Rattle.lane_desk.specs.AllLanes.{taken_in_all}
use Rattle.lane_desk.specs.Workers.{moved_by_all}
use Rattle.lane_desk.proofs.settlement.settle_all.Given as goal

abbrev pub invariant-loop-worked : goal.invariant-loop-worked
invariant-loop-worked g l =
    record {
      done : List (Worked g.row.N.Denot);
      order : done ++ reverse l.workers.items ≡ l.fn.workers.items;
      desk : IsRoundOf l.desk l.round;
      count : length (back l.round) ≡ length done;
      settled : AllSettled (traces l.round) (back l.round);
      posted : posted_in (traces l.round) ≡ posted_in (traces l.fn.rounds.desk);
      moved : l.tally.moved ≡ l.fn.rounds.tally.moved + moved_by_all done;
      sums : l.tally.moved + l.tally.back ≡ l.fn.rounds.tally.moved + l.fn.rounds.tally.back + taken_in_all (back l.round);
    }

abbrev pub decreases-loop-worked : goal.decreases-loop-worked
decreases-loop-worked g l = length l.workers.items
