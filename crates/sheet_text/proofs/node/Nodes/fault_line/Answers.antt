use Rattle.std.proofs.Common.{◌∙◌, ap, sym, refl}
use Rattle.sheet_text.specs.Whole.{fault_line}
use Rattle.sheet_text.proofs.Faults.{line_is}
use Rattle.sheet_text.proofs.node.Nodes.fault_line.Goals as goal

pub returns-in-FloorsOverLimit : goal.returns-in-FloorsOverLimit
returns-in-FloorsOverLimit g c =
    let table = c.args.self.now in
    let node = c.in-FloorsOverLimit.node in
    let less = c.requires.node node c.in-FloorsOverLimit.is in
    record {
      line = c.unwrap_or.ensures
          ∙ line_is table c.args.order.now node _ c.line.result c.len-table.ensures.table.names.once less refl (c.requires.below node less) c.requires.order c.line.ensures.line
          ∙ ap (fault_line table) (sym c.in-FloorsOverLimit.is);
    }
