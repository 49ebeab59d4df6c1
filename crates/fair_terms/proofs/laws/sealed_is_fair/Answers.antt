use Rattle.fair_terms.proofs.FairLemmas.{sealed_fair}
use Rattle.fair_terms.proofs.laws.sealed_is_fair.Goals as goal

pub returns : goal.returns
returns c = record { fair = sealed_fair }
