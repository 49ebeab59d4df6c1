use Rattle.sheet_text.proofs.Held.{is_tree}
use Rattle.sheet_text.proofs.laws.nodes_hold_what_is_beneath.Goals as goal

pub returns : goal.returns
returns c = λ kind kids are levels path. (is_tree kind kids are levels path).matches.over
