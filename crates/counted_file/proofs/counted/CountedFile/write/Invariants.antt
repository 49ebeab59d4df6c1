use Rattle.std.proofs.Common.{◌≡◌, ◌≤◌, ◌-◌, length, take}
use Rattle.std.specs.Io.KnownBytes.{Appends}
use Rattle.counted_file.proofs.counted.CountedFile.write.Given as goal

abbrev pub invariant-loop-done : goal.invariant-loop-done
invariant-loop-done g l = record {
  within : l.done ≤ length l.octets;
  taken : Appends (g.F.Write.contents l.fn.self.file) (g.F.Write.contents l.self.file) (take l.done l.octets);
  failed : l.self.calls.failed ≡ l.fn.self.calls.failed;
}

abbrev pub decreases-loop-done : goal.decreases-loop-done
decreases-loop-done g l = length l.octets - l.done
