use Rattle.share_world.proofs.Grants.{keeps_limits}
use Rattle.share_world.proofs.laws.decisions_keep_limits.Goals as goal

pub returns : goal.returns
returns c = record { kept = λ r w moment tick total end d. keeps_limits c.grants_keep_names.ensures.kept r tick w.lanes end.lanes d.shared }
