use Rattle.sheet_text.specs.Rows.{AreRowsTo}
use Rattle.sheet_text.proofs.node.Nodes.kids.Given as goal

abbrev pub invariant-loop-place : goal.invariant-loop-place
invariant-loop-place g l = AreRowsTo l.self l.place l.rows
