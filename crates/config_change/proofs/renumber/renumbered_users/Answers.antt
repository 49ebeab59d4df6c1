use Rattle.std.proofs.Common.{◌≡◌, Result, Ok}
use Rattle.authorizer.specs.declared.fault.AuthorizerFault.{AuthorizerFault}
use Rattle.authorizer.specs.Users.{Accounts}
use Rattle.config_change.proofs.renumber.renumbered_users.Goals as goal

ok_same : (a b : Accounts) → ◌≡◌ {A = Result Accounts AuthorizerFault} (Ok a) (Ok b) → b ≡ a
ok_same a b e = cc

pub returns-in-Ok-renumber_groups-clause-users : goal.returns-in-Ok-renumber_groups-clause-users
returns-in-Ok-renumber_groups-clause-users c =
    (c.keep_numbers.new.self, c.in-Ok.ensures.users, ok_same _ _ c.in-Ok-renumber_groups.ensures.users)
