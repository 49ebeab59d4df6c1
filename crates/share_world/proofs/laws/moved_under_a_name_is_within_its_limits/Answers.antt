use Rattle.share_world.proofs.Kept.{moved_within}
use Rattle.share_world.proofs.laws.moved_under_a_name_is_within_its_limits.Goals as goal

pub returns : goal.returns
returns c = record { within = moved_within c.grants_keep_names.ensures.kept }
