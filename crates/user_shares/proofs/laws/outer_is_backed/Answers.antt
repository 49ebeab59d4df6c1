use Rattle.user_shares.proofs.OuterStage.{outer-backed}
use Rattle.user_shares.proofs.laws.outer_is_backed.Goals as goal

pub returns : goal.returns
returns c = record { backed = outer-backed }
