use Rattle.share_world.proofs.Kept.{kept_by_runs}
use Rattle.share_world.proofs.laws.issued_is_the_sum_of_the_shares.Goals as goal

pub returns : goal.returns
returns c = record { shares = λ r k past end e. (kept_by_runs c.grants_keep_names.ensures.kept r k past end e).issued }
