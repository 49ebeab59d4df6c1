use Rattle.limit_tree.specs.Outline.{limits}
use Rattle.round_allocator.proofs.Names.{IsNamedBelow}
use Rattle.round_allocator.proofs.named.deepest_entries.Given as goal

abbrev pub invariant-loop-leaf : goal.invariant-loop-leaf
invariant-loop-leaf g l = IsNamedBelow (limits l.flat) l.grants l.leaf l.entries.items
