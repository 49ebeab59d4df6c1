use Rattle.round_events.proofs.Tries.{tries_first}
use Rattle.round_events.proofs.laws.tries_come_first.Goals as goal

pub returns : goal.returns
returns g c = record { tries = tries_first }
