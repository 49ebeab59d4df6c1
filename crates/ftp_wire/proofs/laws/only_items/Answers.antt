use Rattle.ftp_wire.proofs.Reading.{same_items}
use Rattle.ftp_wire.proofs.laws.only_items.Goals as goal

pub returns : goal.returns
returns c = record { only = same_items }
