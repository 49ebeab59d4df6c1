use Rattle.std.proofs.Common.{◌≡◌, ℕ, Some, length}
use Rattle.std.specs.Prelude.{slice_get}
use Rattle.serde_json.specs.View.{view}
use Rattle.serde_json.specs.declared.value.Value.{Value}
use Rattle.plan_report.specs.PlanData.{IsRowOf}
use Rattle.plan_report.proofs.values.rows_of.Given as goal

abbrev pub invariant-loop-place : goal.invariant-loop-place
invariant-loop-place l = record {
  count : length l.rows.items ≡ l.place;
  each : (i : ℕ) (v : Value) → slice_get l.rows.items i ≡ Some v → IsRowOf l.named.groups.now l.named.users.now l.shares i (view v);
}
