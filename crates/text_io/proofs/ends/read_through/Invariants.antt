use Rattle.std.specs.Io.KnownBytes.{Keeps}
use Rattle.text_io.proofs.ends.read_through.Given as goal

abbrev pub invariant-reads : goal.invariant-reads
invariant-reads g l = Keeps (g.R.Read.remaining l.initial.reader) (g.R.Read.remaining l.reader)
