use Rattle.std.proofs.Common.{◌≡◌, take}
use Rattle.fair_shares.specs.Asked.{asks_on}
use Rattle.fair_shares.proofs.asked.asks_on.Given as goal

abbrev pub invariant-loop-lane : goal.invariant-loop-lane
invariant-loop-lane g l = l.found.items ≡ asks_on l.asks (take l.lane-index l.lanes)
