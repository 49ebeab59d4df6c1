use Rattle.round_events.proofs.Rounds.{plans_are_small, round_is_events}
use Rattle.round_events.proofs.laws.round_is_events.Goals as goal

pub returns : goal.returns
returns c = record { events = round_is_events; wants = plans_are_small }
