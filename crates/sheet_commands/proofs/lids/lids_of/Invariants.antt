use Rattle.std.proofs.Common.{◌≡◌, length, take}
use Rattle.limit_tree.specs.Outline.{limits}
use Rattle.sheet_commands.specs.Columns.{HasLids}
use Rattle.sheet_commands.proofs.lids.lids_of.Given as goal

abbrev pub invariant-loop-node : goal.invariant-loop-node
invariant-loop-node g l = record {
  size : length l.lids.items ≡ length (limits l.flat).wants;
  lids : HasLids (take l.node l.flat) l.lids.items;
}
