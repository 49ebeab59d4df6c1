use Rattle.std.proofs.Common.{◌≡◌, drop}
use Rattle.lane_desk.specs.Turns.{user_had_from}
use Rattle.lane_desk.proofs.decision.user_had.Given as goal

abbrev pub invariant-loop-other : goal.invariant-loop-other
invariant-loop-other l = user_had_from l.octets l.had l.asker (drop l.other-index l.asks) ≡ user_had_from 0 l.had l.asker l.asks
