use Rattle.authorizer.proofs.Owned.{each_has_own_number}
use Rattle.authorizer.proofs.laws.each_has_own_number.Goals as goal

pub returns : goal.returns
returns c = record { own = each_has_own_number }
