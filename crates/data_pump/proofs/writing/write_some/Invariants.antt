use Rattle.std.proofs.Common.{◌≡◌, length, ◌-◌, ◌≤◌, take}
use Rattle.std.specs.Io.KnownBytes.{Appends}
use Rattle.data_pump.proofs.writing.write_some.Given as goal

abbrev pub invariant-writes : goal.invariant-writes
invariant-writes g l = record {
  within : l.moved ≤ length l.octets;
  written : Appends (g.K.Write.contents l.initial.connection.end) (g.K.Write.contents l.connection.end) (take l.moved l.octets);
  passed : l.connection.calls.failed ≡ l.initial.connection.calls.failed;
}

abbrev pub decreases-writes : goal.decreases-writes
decreases-writes g l = length l.octets - l.moved
