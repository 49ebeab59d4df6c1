use Rattle.line_rates.proofs.FloorLemmas.{floors_within}
use Rattle.rate_floors.proofs.KeptLemmas.{kept}
use Rattle.rate_floors.proofs.laws.promises_are_kept.Goals as goal

pub returns : goal.returns
returns c = record {
  kept = λ p asks fit of tick. kept p asks fit of tick;
  within = λ p asks fit of tick t tree. floors_within p.rates tick asks t tree (kept p asks fit of tick);
}
