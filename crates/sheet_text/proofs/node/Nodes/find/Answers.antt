use Rattle.std.proofs.Common.{◌∙◌}
use Rattle.sheet_text.proofs.Pushed.{found_there}
use Rattle.sheet_text.proofs.node.Nodes.find.Goals as goal

pub returns : goal.returns
returns g c = record { place = c.place.ensures.place ∙ found_there c.self.inside.nodes.items c.self.inside.names.items c.self.inside.wants c.args.self.now c.args.parent c.index.result.now c.args.name.now c.self.invariant c.self.view_is c.requires.parent c.index.ensures }
