use Rattle.session_table.proofs.InputLaws.{others_ask_no_floors}
use Rattle.session_table.proofs.laws.others_ask_no_floors.Goals as goal

pub returns : goal.returns
returns g c = record { others = others_ask_no_floors _ _ _ }
