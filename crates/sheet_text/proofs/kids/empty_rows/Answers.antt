use Rattle.std.proofs.Common.{◌∙◌, ap, arith, ◌∷◌, [], ℕ, List, Vec, length, length-append, sym}
use Rattle.std.specs.Prelude.{slice_get}
use Rattle.sheet_text.proofs.Rows.{empty_more}
use Rattle.sheet_text.proofs.kids.empty_rows.Goals as goal

pub loop-preserved : goal.loop-preserved
loop-preserved g c = record {
  length = ap length c.in_ok-push.ensures.items ∙ length-append c.loop.rows.items (c.new-row.result ∷ []) ∙ omega (arith, c.loop.invariant.length);
  empty = λ place row e. empty_more c.loop.rows.items c.new-row.result c.new-row.ensures.items c.loop.invariant.empty place row (sym (ap (λ (rs : List (Vec ℕ g.row.A.Denot)). slice_get rs place) c.in_ok-push.ensures.items) ∙ e);
}
