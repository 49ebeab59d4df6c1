use Rattle.limit_tree.specs.Outline.{limits}
use Rattle.test_allotment.specs.Turns.{IsBestBelow}
use Rattle.test_allotment.proofs.plain.next_leaf.Given as goal

abbrev pub invariant-loop-leaf : goal.invariant-loop-leaf
invariant-loop-leaf g l = IsBestBelow (limits l.tree) l.grants l.leaf l.best
