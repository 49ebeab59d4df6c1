use Rattle.sheet_text.proofs.WholeTrees.{tree_is}
use Rattle.sheet_text.proofs.laws.tree_is_of_what_is_mentioned.Goals as goal

pub returns : goal.returns
returns c = λ kind mentions depth are. tree_is kind mentions depth are
