use Rattle.grant_certificate.proofs.UserTotals.{users-largest}
use Rattle.grant_certificate.proofs.laws.users_have_largest_at_each_level.Goals as goal

pub returns : goal.returns
returns c = record { largest = users-largest }
