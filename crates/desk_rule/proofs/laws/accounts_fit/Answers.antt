use Rattle.desk_rule.proofs.Events.{accounts}
use Rattle.desk_rule.proofs.laws.accounts_fit.Goals as goal

pub returns : goal.returns
returns g c = record { accounts = accounts }
