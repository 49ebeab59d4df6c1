use Rattle.std.proofs.Common.{IfSome, option_copied}
use Rattle.server_config.specs.Similar.{IsNear}
use Rattle.server_config.proofs.similar.near_to.Given as goal

abbrev pub invariant-loop-row : goal.invariant-loop-row
invariant-loop-row l = IfSome (option_copied l.found) (IsNear l.key)
