use Rattle.round_pace.proofs.Giving.{rounds_give}
use Rattle.round_pace.proofs.OverTime.{keeps_guarantees}
use Rattle.round_pace.proofs.laws.guarantees_are_kept.Goals as goal

pub returns : goal.returns
returns c = record { given = rounds_give; kept = keeps_guarantees }
