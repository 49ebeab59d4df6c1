use Rattle.session_table.proofs.InputLaws.{admissions_are_rightful}
use Rattle.session_table.proofs.laws.admissions_are_rightful.Goals as goal

pub returns : goal.returns
returns g c = record { rightful = admissions_are_rightful _ _ _ }
