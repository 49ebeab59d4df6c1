use Rattle.sheet_text.proofs.Noted.{parent_at}
use Rattle.sheet_text.proofs.node.Nodes.parent.Goals as goal

pub returns : goal.returns
returns g c =
    let is = parent_at c.self.inside.nodes.items c.index.result.now c.args.self.now c.args.place c.self.invariant.beneath c.self.view_is c.requires.some c.requires.place c.index.ensures in
    record { within = is.0; parent = (is.1, is.2) }
