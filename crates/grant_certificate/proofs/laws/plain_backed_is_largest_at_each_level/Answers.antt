use Rattle.grant_certificate.proofs.Plains.{plain_backed-largest}
use Rattle.grant_certificate.proofs.laws.plain_backed_is_largest_at_each_level.Goals as goal

pub returns : goal.returns
returns c = record { largest = plain_backed-largest }
