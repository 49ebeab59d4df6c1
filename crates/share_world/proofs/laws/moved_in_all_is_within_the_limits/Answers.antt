use Rattle.share_world.proofs.Kept.{moved_all}
use Rattle.share_world.proofs.laws.moved_in_all_is_within_the_limits.Goals as goal

pub returns : goal.returns
returns c = record { within = moved_all c.grants_keep_names.ensures.kept }
