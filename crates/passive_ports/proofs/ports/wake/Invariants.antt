use Rattle.std.proofs.Common.{◌≡◌, take}
use Rattle.passive_ports.specs.Resting.{unleased}
use Rattle.passive_ports.proofs.ports.wake.Given as goal

abbrev pub invariant-loop-port : goal.invariant-loop-port
invariant-loop-port g l = l.pool ≡ unleased l.initial.pool (take l.port-index l.resting)
