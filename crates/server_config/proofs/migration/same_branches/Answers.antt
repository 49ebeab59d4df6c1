use Rattle.server_config.proofs.Versions.{branches_same}
use Rattle.server_config.proofs.migration.same_branches.Goals as goal

pub returns : goal.returns
returns c = record { branches = branches_same }
