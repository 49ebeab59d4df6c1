use Rattle.sheet_text.proofs.Stated.{tree_of_stated}
use Rattle.sheet_text.proofs.laws.tree_is_of_what_is_stated.Goals as goal

pub returns : goal.returns
returns c = λ kind stated depth short below. tree_of_stated kind stated depth short below
