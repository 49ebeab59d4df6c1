use Rattle.std.proofs.Common.{◌∙◌, arith}
use Rattle.sheet_text.proofs.Rows.{rows_first, rows_more}
use Rattle.sheet_text.proofs.node.Nodes.kids.Goals as goal

pub loop-place-init : goal.loop-place-init
loop-place-init g c = rows_first c.args.self.now c.in_ok-rows.rows c.len-count.ensures.table (c.in_ok-rows.ensures.length ∙ c.len-count.ensures.len) c.in_ok-rows.ensures.empty

pub loop-place-preserved : goal.loop-place-preserved
loop-place-preserved g c =
    rows_more c.args.self.now c.loop-place.place c.parent.result c.parent.ensures.parent.0 c.loop-place.rows c.join.new.rows c.len-count.ensures.table c.parent.ensures.within (omega (arith, c.loop-place-test.true, c.len-count.ensures.len)) c.parent.ensures.parent.1 c.in_ok-join.ensures.length c.in_ok-join.ensures.rows c.loop-place.invariant
