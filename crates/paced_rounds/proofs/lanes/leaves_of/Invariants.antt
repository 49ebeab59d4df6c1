use Rattle.std.proofs.Common.{◌≡◌, map, take}
use Rattle.paced_rounds.specs.LaneTurns.{lane_of, ask_of, grant_of}
use Rattle.paced_rounds.proofs.lanes.leaves_of.Given as goal

abbrev pub invariant-loop-i : goal.invariant-loop-i
invariant-loop-i l = record {
  lanes : map lane_of l.leaves.items ≡ take l.i l.lanes;
  asks : map ask_of l.leaves.items ≡ take l.i l.asks;
  grants : map grant_of l.leaves.items ≡ take l.i l.grants;
}
