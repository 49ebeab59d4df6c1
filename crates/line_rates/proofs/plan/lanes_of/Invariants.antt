use Rattle.std.proofs.Common.{◌≡◌, take, map}
use Rattle.line_rates.specs.Queue.{asker_of}
use Rattle.line_rates.specs.TickTree.{lane_in}
use Rattle.line_rates.proofs.plan.lanes_of.Given as goal

abbrev pub invariant-loop-it : goal.invariant-loop-it
invariant-loop-it g l = l.lanes.items ≡ map lane_in (map asker_of (take l.it-index l.queue))
