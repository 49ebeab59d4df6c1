use Rattle.session_table.proofs.InputLaws.{no_calls_outside}
use Rattle.session_table.proofs.laws.no_calls_outside.Goals as goal

pub returns : goal.returns
returns g c = record { outside = no_calls_outside _ _ _ }
