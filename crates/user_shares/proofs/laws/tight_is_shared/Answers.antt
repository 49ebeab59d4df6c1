use Rattle.user_shares.proofs.TightStage.{tight-shared}
use Rattle.user_shares.proofs.laws.tight_is_shared.Goals as goal

pub returns : goal.returns
returns c = record { shared = tight-shared }
