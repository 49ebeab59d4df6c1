use Rattle.std.proofs.Common.{◌≡◌, length}
use Rattle.ftp_wire.specs.Arguments.{names_fact, parts_at}
use Rattle.ftp_wire.proofs.arguments.names_fact.Given as goal

abbrev pub invariant-loop-name : goal.invariant-loop-name
invariant-loop-name l = names_fact l.fact (parts_at 59 l.rest) ≡ names_fact l.fact (parts_at 59 l.names)

abbrev pub decreases-loop-name : goal.decreases-loop-name
decreases-loop-name l = length l.rest
