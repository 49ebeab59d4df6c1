use Rattle.std.proofs.Common.{length, map, arith}
use Rattle.std.proofs.lemmas.List.{length-map}
use Rattle.serde_json.specs.View.{view}
use Rattle.plan_report.specs.PlanData.{IsRowOf}
use Rattle.plan_report.proofs.Rows.{shown_are}
use Rattle.plan_report.proofs.values.rows_of.Goals as goal

pub returns : goal.returns
returns c = record {
  rows = record {
    count = omega (arith, length-map c.loop-place.rows.items view, c.loop-place.invariant.count, c.loop-place.auto.place-end, c.loop-place-test.false);
    each = shown_are view (IsRowOf c.args.named.groups.now c.args.named.users.now c.args.shares.now) c.loop-place.rows.items c.loop-place.invariant.each;
  };
}
