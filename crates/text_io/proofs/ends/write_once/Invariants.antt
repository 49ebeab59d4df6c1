use Rattle.std.specs.Io.KnownBytes.{Keeps}
use Rattle.text_io.proofs.ends.write_once.Given as goal

abbrev pub invariant-writes : goal.invariant-writes
invariant-writes g l = Keeps (g.W.Write.contents l.initial.writer) (g.W.Write.contents l.writer)
