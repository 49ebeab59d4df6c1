use Rattle.limit_tree.proofs.Taken.{takes-in}
use Rattle.limit_tree.proofs.laws.absorbed_is_taken_in.Goals as goal

pub returns : goal.returns
returns c = record { taken = λ outline level flat. takes-in level outline flat.shaped }
