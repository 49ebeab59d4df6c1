use Rattle.std.proofs.Common.{arith, get_or, ◌∷◌, []}
use Rattle.std.proofs.lemmas.Grind.{common_steps}
use Rattle.round_cadence.proofs.LeastIntervals.{is_interval_at}
use Rattle.round_cadence.proofs.intervals.interval.Goals as goal

pub returns-then-earns-clause-least : goal.returns-then-earns-clause-least
returns-then-earns-clause-least c = is_interval_at c.args.rate c.args.octets (get_or (1 ∷ 2 ∷ 4 ∷ 8 ∷ 16 ∷ []) c.loop-ticks.ticks-index 0) (grind (arith, common_steps))

pub returns-clause-least : goal.returns-clause-least
returns-clause-least c = is_interval_at c.args.rate c.args.octets 32 (grind (arith, common_steps))
