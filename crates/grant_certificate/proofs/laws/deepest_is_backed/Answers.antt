use Rattle.grant_certificate.proofs.Deepest.{deepest-backed}
use Rattle.grant_certificate.proofs.laws.deepest_is_backed.Goals as goal

pub returns : goal.returns
returns c = record { backed = deepest-backed }
