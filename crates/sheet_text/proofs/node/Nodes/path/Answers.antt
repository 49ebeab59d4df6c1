use Rattle.sheet_text.proofs.Noted.{text_at}
use Rattle.sheet_text.proofs.node.Nodes.path.Goals as goal

pub returns : goal.returns
returns g c = record { path = text_at c.self.inside.nodes.items c.index.result.now c.args.self.now c.args.place c.self.invariant.texts c.self.view_is c.requires.place c.index.ensures }
