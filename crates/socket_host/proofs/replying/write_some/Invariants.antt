use Rattle.std.specs.Io.KnownBytes.{Keeps}
use Rattle.socket_host.proofs.replying.write_some.Given as goal

abbrev pub invariant-writes : goal.invariant-writes
invariant-writes g l = Keeps (g.W.Write.contents l.initial.to) (g.W.Write.contents l.to)
