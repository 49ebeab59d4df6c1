use Rattle.share_world.proofs.Grants.{best_in_round}
use Rattle.share_world.proofs.laws.decisions_are_best.Goals as goal

pub returns : goal.returns
returns c = record { best = best_in_round }
