use Rattle.share_world.proofs.Kept.{kept_by_runs}
use Rattle.share_world.proofs.laws.taken_begins_posted.Goals as goal

pub returns : goal.returns
returns c = record { begins = λ r k past end i l e there. let s = (kept_by_runs c.grants_keep_names.ensures.kept r k past end e).sound i l there in (s.waiting, s.posted_is) }
