use Rattle.grant_certificate.proofs.Plains.{plain_backed-best}
use Rattle.grant_certificate.proofs.laws.plain_backed_is_best.Goals as goal

pub returns : goal.returns
returns c = record { best = plain_backed-best }
