use Rattle.std.proofs.Common.{◌≡◌, drop}
use Rattle.lane_desk.specs.Turns.{users_had_from}
use Rattle.lane_desk.proofs.decision.users_had.Given as goal

abbrev pub invariant-loop-asker : goal.invariant-loop-asker
invariant-loop-asker l = users_had_from l.together l.had l.asks (drop l.asker-index l.asks) ≡ users_had_from l.had l.had l.asks l.asks
