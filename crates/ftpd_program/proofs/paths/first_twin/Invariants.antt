use Rattle.std.proofs.Common.{◌≡◌, drop}
use Rattle.ftpd_program.specs.Paths.{first_twin}
use Rattle.ftpd_program.proofs.paths.first_twin.Given as goal

abbrev pub invariant-loop-index : goal.invariant-loop-index
invariant-loop-index l = first_twin (drop l.index l.paths) ≡ first_twin l.paths
