use Rattle.grant_certificate.proofs.TwoStage.{two-stages}
use Rattle.grant_certificate.proofs.laws.two_stages_are_backed.Goals as goal

pub returns : goal.returns
returns c = record { backed = two-stages }
