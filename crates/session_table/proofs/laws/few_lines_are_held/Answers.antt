use Rattle.session_table.proofs.InputLaws.{few_lines_are_held}
use Rattle.session_table.proofs.laws.few_lines_are_held.Goals as goal

pub returns : goal.returns
returns g c = record { few = few_lines_are_held _ _ _ }
