use Rattle.std.proofs.Common.{◌≡◌, ◌+◌, ◌≤◌, sum, drop}
use Rattle.desk_rule.specs.Lanes.{posted_in, most}
use Rattle.lane_desk.specs.Traces.{traces, IsSameRound}
use Rattle.lane_desk.specs.Posted.{posted_all, AreDue}
use Rattle.lane_desk.proofs.post.post_all.Given as goal

abbrev pub invariant-loop-i : goal.invariant-loop-i
invariant-loop-i g l =
    record {
      same : IsSameRound l.fn.round l.round;
      left : l.purse.left ≡ sum (drop l.i l.grants);
      few : posted_in (traces l.round) + sum (drop l.i l.grants) ≤ most;
      due : AreDue (drop l.i l.lanes) (traces l.round);
      rest : posted_all (drop l.i l.lanes) (drop l.i l.grants) (traces l.round) ≡ posted_all l.lanes l.grants (traces l.fn.round);
    }
