use Rattle.std.proofs.Common.{◌≡◌}
use Rattle.std.specs.Io.KnownBytes.{Keeps}
use Rattle.counted_file.specs.Calls.{IsRaised}
use Rattle.counted_file.proofs.counted.CountedFile.read.Given as goal

abbrev pub invariant-reads : goal.invariant-reads
invariant-reads g l = record {
  kept : Keeps (g.F.Read.remaining l.initial.self.file) (g.F.Read.remaining l.self.file);
  passed : l.self.calls.passed ≡ l.initial.self.calls.passed;
  failed : l.self.calls.failed ≡ l.initial.self.calls.failed;
  turns : IsRaised l.turn l.initial.self.calls.interrupted l.self.calls.interrupted;
}
