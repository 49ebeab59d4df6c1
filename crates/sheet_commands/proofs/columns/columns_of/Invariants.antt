use Rattle.std.proofs.Common.{◌≡◌, map, take}
use Rattle.sheet_commands.specs.Columns.{column_at, seen}
use Rattle.sheet_commands.proofs.columns.columns_of.Given as goal

abbrev pub invariant-loop-leaf : goal.invariant-loop-leaf
invariant-loop-leaf g l = map seen l.columns.items ≡ map (column_at l.sheet l.owners l.grants l.entries) (take l.leaf-index l.wants)
