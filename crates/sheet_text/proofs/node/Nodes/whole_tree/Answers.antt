use Rattle.std.proofs.Common.{◌∙◌, ap, List, ℕ, Some}
use Rattle.sheet_text.specs.Tree.{paths_to}
use Rattle.sheet_text.proofs.Faults.{over_listed}
use Rattle.limit_tree.specs.Outline.{places}
use Rattle.sheet_text.proofs.node.Nodes.whole_tree.Goals as goal

pub fault_line-requires-clause-node : goal.fault_line-requires-clause-node
fault_line-requires-clause-node g c node e =
    let table = c.args.self.now in
    over_listed table (places c.in_ok-root.root) c.deref.result.now node c.len-table.ensures.table.names.once c.in_ok-root.ensures.tree (ap (λ (os : List ℕ). paths_to table os) c.deref.ensures.value ∙ c.in_ok-root.ensures.order) (c.in-Err.ensures.new ∙ ap Some e)
