use Rattle.line_rates.proofs.PlainLemmas.{plain_tree, full_tree}
use Rattle.line_rates.proofs.laws.no_groups_and_floors_is_plain.Goals as goal

pub returns : goal.returns
returns c = record { plain = λ r tick asks t plain. (plain_tree r tick asks plain t, full_tree r tick asks plain t) }
