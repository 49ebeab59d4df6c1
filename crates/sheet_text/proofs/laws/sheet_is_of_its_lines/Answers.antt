use Rattle.sheet_text.proofs.Taking.{text_folds, text_tree}
use Rattle.sheet_text.proofs.laws.sheet_is_of_its_lines.Goals as goal

pub returns : goal.returns
returns c text table e = (text_folds text table e, text_tree text table e)
