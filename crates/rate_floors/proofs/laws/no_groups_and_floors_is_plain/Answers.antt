use Rattle.rate_floors.proofs.PlainLemmas.{no_groups, no_floors}
use Rattle.rate_floors.proofs.laws.no_groups_and_floors_is_plain.Goals as goal

pub returns : goal.returns
returns c = record { groups = no_groups; floors = no_floors }
