use Rattle.grant_certificate.proofs.Order.{backed-best}
use Rattle.grant_certificate.proofs.laws.backed_is_best.Goals as goal

pub returns : goal.returns
returns c = record { best = backed-best }
