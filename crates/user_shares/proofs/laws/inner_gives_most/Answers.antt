use Rattle.user_shares.proofs.InnerStage.{inner-most}
use Rattle.user_shares.proofs.laws.inner_gives_most.Goals as goal

pub returns : goal.returns
returns c = record { most = inner-most }
