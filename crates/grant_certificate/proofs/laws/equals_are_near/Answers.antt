use Rattle.grant_certificate.proofs.Near.{equals-near}
use Rattle.grant_certificate.proofs.laws.equals_are_near.Goals as goal

pub returns : goal.returns
returns c = record { near = equals-near }
