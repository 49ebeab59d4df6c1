use Rattle.session_table.proofs.InputLaws.{calls_are_rightful}
use Rattle.session_table.proofs.laws.calls_are_rightful.Goals as goal

pub returns : goal.returns
returns g c = record { rightful = calls_are_rightful _ _ _ }
