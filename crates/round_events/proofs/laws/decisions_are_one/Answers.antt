use Rattle.round_events.proofs.Decided.{one_decision}
use Rattle.round_events.proofs.laws.decisions_are_one.Goals as goal

pub returns : goal.returns
returns c = record { one = one_decision }
