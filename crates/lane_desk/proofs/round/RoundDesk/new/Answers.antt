use Rattle.lane_desk.proofs.Beginning.{begins_quiet, starts}
use Rattle.lane_desk.proofs.round.RoundDesk.new.Goals as goal

pub invariant_of-result : goal.invariant_of-result
invariant_of-result g c = record { few = c.requires.1; knows = starts _ _ c.requires.0 c.requires.1; answers = begins_quiet _ _ c.requires.0 }
