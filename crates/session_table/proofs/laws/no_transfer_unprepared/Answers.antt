use Rattle.session_table.proofs.InputLaws.{no_transfer_unprepared}
use Rattle.session_table.proofs.laws.no_transfer_unprepared.Goals as goal

pub returns : goal.returns
returns g c = record { unprepared = no_transfer_unprepared _ _ _ }
