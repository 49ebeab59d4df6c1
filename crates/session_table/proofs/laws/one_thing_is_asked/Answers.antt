use Rattle.session_table.proofs.InputLaws.{one_thing_is_asked}
use Rattle.session_table.proofs.laws.one_thing_is_asked.Goals as goal

pub returns : goal.returns
returns g c = record { one = one_thing_is_asked _ _ _ }
