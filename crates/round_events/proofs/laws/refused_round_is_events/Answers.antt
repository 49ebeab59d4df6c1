use Rattle.round_events.proofs.Refused.{refused_is_events}
use Rattle.round_events.proofs.laws.refused_round_is_events.Goals as goal

pub returns : goal.returns
returns g c = record { events = refused_is_events g.row.A.Denot }
