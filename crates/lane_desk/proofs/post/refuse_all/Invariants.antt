use Rattle.std.proofs.Common.{◌≡◌, ◌≤◌, drop, map}
use Rattle.line_rates.specs.TickTree.{lane_in}
use Rattle.desk_rule.specs.Lanes.{posted_in, most}
use Rattle.lane_desk.specs.Traces.{traces, IsSameRound}
use Rattle.lane_desk.specs.Posted.{posted_all, AreDue, nothing_for}
use Rattle.lane_desk.proofs.post.refuse_all.Given as goal

abbrev pub invariant-loop-i : goal.invariant-loop-i
invariant-loop-i g l =
    record {
      same : IsSameRound l.fn.round l.round;
      few : posted_in (traces l.round) ≤ most;
      due : AreDue (map lane_in (drop l.i l.asks)) (traces l.round);
      rest : posted_all (map lane_in (drop l.i l.asks)) (map nothing_for (drop l.i l.asks)) (traces l.round) ≡ posted_all (map lane_in l.asks) (map nothing_for l.asks) (traces l.fn.round);
    }
