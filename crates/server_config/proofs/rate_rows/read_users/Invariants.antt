use Rattle.std.proofs.Common.{◌≡◌, take, List}
use Rattle.std.specs.List.{AllByRecursion}
use Rattle.config_file.specs.declared.stated.GroupTable.{GroupTable}
use Rattle.server_config.specs.Groups.{AreNumbers, HasGroup}
use Rattle.server_config.specs.RateRows.{user_rows}
use Rattle.server_config.proofs.rate_rows.read_users.Given as goal

abbrev pub invariant-loop-index : goal.invariant-loop-index
invariant-loop-index l = (groups : List GroupTable) → AreNumbers groups l.numbers
    → (l.rows.items ≡ user_rows groups (take l.index l.users)) × AllByRecursion (λ user. HasGroup groups user.group) (take l.index l.users)
