use Rattle.grant_certificate.proofs.Order.{ascending-exists}
use Rattle.grant_certificate.proofs.laws.each_has_ascending.Goals as goal

pub returns : goal.returns
returns c = record { ascending = ascending-exists }
