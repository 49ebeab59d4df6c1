use Rattle.std.proofs.Common.{arith}
use Rattle.limit_tree.specs.Outline.{limits}
use Rattle.round_allocator.proofs.Marks.{mark-entry}
use Rattle.round_allocator.proofs.named.entry.Goals as goal

pub returns-else-grants-leaf : goal.returns-else-grants-leaf
returns-else-grants-leaf g c = record { entry = mark-entry (limits c.args.flat.now) c.args.grants.now c.args.marks.now c.args.leaf c.requires.marks c.requires.leaf (omega (arith, c.if-grants-leaf.false, c.want.ensures.want)) }
