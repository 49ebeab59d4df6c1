use Rattle.authorizer.proofs.Keeping.{numbers_are_kept, numbers_stay_own}
use Rattle.authorizer.proofs.laws.numbers_are_kept.Goals as goal

pub returns : goal.returns
returns c = record { kept = numbers_are_kept; own = numbers_stay_own }
