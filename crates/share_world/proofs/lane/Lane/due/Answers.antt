use Rattle.std.proofs.Common.{subst}
use Rattle.share_world.specs.Performed.{HasAsk}
use Rattle.share_world.proofs.Asking.{has_ask}
use Rattle.share_world.proofs.lane.Lane.due.Goals as goal

pub returns-in-Round-clause-asked : goal.returns-in-Round-clause-asked
returns-in-Round-clause-asked g c = subst HasAsk c.self.view_is (has_ask _ c.self.invariant)
