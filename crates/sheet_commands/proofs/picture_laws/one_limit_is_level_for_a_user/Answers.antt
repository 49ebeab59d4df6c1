use Rattle.sheet_commands.proofs.Levels.{one_user_level}
use Rattle.sheet_commands.proofs.picture_laws.one_limit_is_level_for_a_user.Goals as goal

pub returns : goal.returns
returns c = record { level = one_user_level }
