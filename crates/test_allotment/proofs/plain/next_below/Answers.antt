use Rattle.std.proofs.lemmas.Bool.{iff_false}
use Rattle.limit_tree.specs.Outline.{limits}
use Rattle.test_allotment.proofs.Turns.{best-next, best-same}
use Rattle.test_allotment.proofs.plain.next_below.Goals as goal

pub returns-then-has_room : goal.returns-then-has_room
returns-then-has_room g c = record { next = best-next (limits c.args.tree.now) c.args.grants.now c.args.leaf c.args.best c.better.result c.requires.best (c.has_room.ensures.room.0 c.if-has_room.true) c.better.ensures.better }

pub returns-else-has_room : goal.returns-else-has_room
returns-else-has_room g c = record { next = best-same (limits c.args.tree.now) c.args.grants.now c.args.leaf c.args.best (iff_false c.has_room.ensures.room c.if-has_room.false) c.requires.best }
