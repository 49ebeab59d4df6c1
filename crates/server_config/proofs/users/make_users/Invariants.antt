use Rattle.std.proofs.Common.{◌≡◌, take, List}
use Rattle.authorizer.specs.Numbers.{no_users}
use Rattle.server_config.specs.RateRows.{user_rows}
use Rattle.config_file.specs.declared.stated.GroupTable.{GroupTable}
use Rattle.server_config.specs.Users.{AddsUsers}
use Rattle.server_config.proofs.users.make_users.Given as goal

abbrev pub invariant-loop-index : goal.invariant-loop-index
invariant-loop-index l = (groups : List GroupTable) → l.rows ≡ user_rows groups l.users
    → AddsUsers groups (take l.index l.users) (take l.index l.overrides) no_users l.authorizer
