use Rattle.std.proofs.Common.{◌≡◌, take}
use Rattle.limit_tree.specs.Outline.{limits}
use Rattle.test_allotment.proofs.plain.floors.Given as goal

abbrev pub invariant-loop-leaf : goal.invariant-loop-leaf
invariant-loop-leaf g l = l.floors.items ≡ take l.leaf (limits l.tree).floors
