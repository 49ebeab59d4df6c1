use Rattle.rate_floors.proofs.RefusalLemmas.{refuses_what_does_not_fit}
use Rattle.rate_floors.proofs.laws.refuses_what_does_not_fit.Goals as goal

pub returns : goal.returns
returns c = record { refuses = refuses_what_does_not_fit }
