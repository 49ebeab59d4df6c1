use Rattle.share_world.proofs.Sittings.{answers_last}
use Rattle.share_world.proofs.laws.taken_answers_the_last_ask.Goals as goal

pub returns : goal.returns
returns c = record { answers = answers_last c.grants_keep_names.ensures.kept }
