use Rattle.std.proofs.Common.{◌≡◌, take, false}
use Rattle.passive_ports.specs.Resting.{rests}
use Rattle.passive_ports.proofs.ports.rests.Given as goal

abbrev pub invariant-loop-other : goal.invariant-loop-other
invariant-loop-other l = rests (take l.other-index l.resting) l.port ≡ false
