use Rattle.std.proofs.Common.{◌≡◌, take}
use Rattle.limit_tree.specs.Outline.{limits}
use Rattle.user_shares.proofs.stages.floors_of.Given as goal

abbrev pub invariant-loop-leaf : goal.invariant-loop-leaf
invariant-loop-leaf g l = l.floors.items ≡ take l.leaf (limits l.flat).floors
