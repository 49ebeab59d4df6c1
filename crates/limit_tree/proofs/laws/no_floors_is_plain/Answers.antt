use Rattle.limit_tree.proofs.Plains.{no_floors-plain}
use Rattle.limit_tree.proofs.laws.no_floors_is_plain.Goals as goal

pub returns : goal.returns
returns c = record { plain = no_floors-plain }
