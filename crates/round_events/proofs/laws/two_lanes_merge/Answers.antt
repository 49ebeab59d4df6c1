use Rattle.round_events.proofs.TwoLanes.{example}
use Rattle.round_events.proofs.laws.two_lanes_merge.Goals as goal

pub returns : goal.returns
returns g c = record { example = example g.row.N.Denot }
