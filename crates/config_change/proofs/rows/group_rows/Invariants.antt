use Rattle.std.proofs.Common.{◌≡◌, ◌++◌, drop}
use Rattle.config_change.specs.Named.{group_rows}
use Rattle.config_change.proofs.rows.group_rows.Given as goal

abbrev pub invariant-loop-index : goal.invariant-loop-index
invariant-loop-index l = l.rows.items ++ group_rows l.limits l.index (drop l.index l.numbers) ≡ group_rows l.limits 0 l.numbers
