use Rattle.std.proofs.Common.{◌≡◌, take}
use Rattle.lane_desk.proofs.decision.copied.Given as goal

abbrev pub invariant-loop-asker : goal.invariant-loop-asker
invariant-loop-asker g l = l.copy.items ≡ take l.asker-index l.asks
