use Rattle.share_world.proofs.Grants.{keeps_floors}
use Rattle.share_world.proofs.laws.decisions_keep_floors.Goals as goal

pub returns : goal.returns
returns c = record { kept = λ r w moment tick total end d. keeps_floors r tick w.lanes end.lanes d.shared }
