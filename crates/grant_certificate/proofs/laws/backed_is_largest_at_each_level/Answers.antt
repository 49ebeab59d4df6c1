use Rattle.grant_certificate.proofs.Levels.{backed-largest}
use Rattle.grant_certificate.proofs.laws.backed_is_largest_at_each_level.Goals as goal

pub returns : goal.returns
returns c = record { largest = backed-largest }
