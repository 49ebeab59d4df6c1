use Rattle.round_cadence.proofs.Openings.{is_next}
use Rattle.round_cadence.proofs.intervals.next_opening.Goals as goal

pub returns-clause-first : goal.returns-clause-first
returns-clause-first c = is_next c.args.tick c.args.interval c.requires.some
