use Rattle.line_rates.proofs.FloorLemmas.{floors_within, floors_fit}
use Rattle.line_rates.proofs.laws.floors_fit_their_names.Goals as goal

pub returns : goal.returns
returns c = record { within = λ r tick asks t tree. (floors_fit r tick asks t tree, floors_within r tick asks t tree) }
