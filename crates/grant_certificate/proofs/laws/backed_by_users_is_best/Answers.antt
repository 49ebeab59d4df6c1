use Rattle.grant_certificate.proofs.UserInside.{by-users-best}
use Rattle.grant_certificate.proofs.laws.backed_by_users_is_best.Goals as goal

pub returns : goal.returns
returns c = record { best = by-users-best }
