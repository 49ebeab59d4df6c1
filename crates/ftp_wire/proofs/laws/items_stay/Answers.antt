use Rattle.ftp_wire.proofs.Growing.{items_grow}
use Rattle.ftp_wire.proofs.laws.items_stay.Goals as goal

pub returns : goal.returns
returns c = record { stay = items_grow }
