use Rattle.std.proofs.Common.{◌≡◌, drop}
use Rattle.ftpd_program.specs.Paths.{has_twin}
use Rattle.ftpd_program.proofs.paths.has_twin.Given as goal

abbrev pub invariant-loop-other : goal.invariant-loop-other
invariant-loop-other l = has_twin l.one (drop l.other-index l.others) ≡ has_twin l.one l.others
