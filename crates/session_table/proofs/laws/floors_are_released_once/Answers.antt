use Rattle.session_table.proofs.InputLaws.{floors_are_released_once}
use Rattle.session_table.proofs.laws.floors_are_released_once.Goals as goal

pub returns : goal.returns
returns g c = record { once = floors_are_released_once _ _ _ }
