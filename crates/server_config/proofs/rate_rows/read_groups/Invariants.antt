use Rattle.std.proofs.Common.{◌≡◌, take}
use Rattle.server_config.specs.RateRows.{group_rows}
use Rattle.server_config.proofs.rate_rows.read_groups.Given as goal

abbrev pub invariant-loop-index : goal.invariant-loop-index
invariant-loop-index l = l.rows.items ≡ group_rows (take l.index l.groups)
