use Rattle.guarantee_laws.proofs.Reaching.{new_is_reached, each_round_is_reached}
use Rattle.guarantee_laws.proofs.laws.paces_are_reached.Goals as goal

pub returns : goal.returns
returns c = record { new = new_is_reached c.stretches_keep_rates.ensures.new; reached = each_round_is_reached }
