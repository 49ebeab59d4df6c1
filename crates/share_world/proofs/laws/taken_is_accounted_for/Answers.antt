use Rattle.share_world.proofs.Kept.{kept_by_runs}
use Rattle.share_world.proofs.laws.taken_is_accounted_for.Goals as goal

pub returns : goal.returns
returns c = record { accounted = λ r k past end i l e there. ((kept_by_runs c.grants_keep_names.ensures.kept r k past end e).sound i l there).taken_is }
