use Rattle.ftp_wire.proofs.Growing.{no_prefix}
use Rattle.ftp_wire.proofs.laws.spellings_apart.Goals as goal

pub returns : goal.returns
returns c = record { apart = no_prefix }
