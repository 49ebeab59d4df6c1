use Rattle.sheet_text.proofs.Together.{tree_of_lines}
use Rattle.sheet_text.proofs.laws.tree_is_of_lines.Goals as goal

pub returns : goal.returns
returns c = λ lines table taken. tree_of_lines lines table taken
