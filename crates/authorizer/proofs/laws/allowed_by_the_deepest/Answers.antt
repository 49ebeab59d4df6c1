use Rattle.authorizer.proofs.Decides.{allowed_by_the_deepest}
use Rattle.authorizer.proofs.laws.allowed_by_the_deepest.Goals as goal

pub returns : goal.returns
returns c = record { allowed = allowed_by_the_deepest }
