use Rattle.std.proofs.Common.{◌∙◌, ap}
use Rattle.std.specs.Prelude.{slice_get}
use Rattle.limit_tree.specs.Outline.{limits}
use Rattle.limit_tree.proofs.tree.Tree.leaf.Goals as goal

pub returns-clause-want : goal.returns-clause-want
returns-clause-want g c = (c.walk.ensures.saw c.new-look.result c.new-look.ensures.start).want ∙ ap (slice_get (limits c.args.self.now).wants) c.new-look.ensures.leaf

pub returns-clause-floor : goal.returns-clause-floor
returns-clause-floor g c = (c.walk.ensures.saw c.new-look.result c.new-look.ensures.start).floor ∙ ap (slice_get (limits c.args.self.now).floors) c.new-look.ensures.leaf
