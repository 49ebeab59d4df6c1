use Rattle.std.proofs.Common.{◌≡◌, map, take}
use Rattle.serde_json.specs.View.{view}
use Rattle.change_report.specs.ChangeData.{limit_data}
use Rattle.change_report.proofs.values.limit_values.Given as goal

abbrev pub invariant-loop-change : goal.invariant-loop-change
invariant-loop-change l = map view l.values.items ≡ map limit_data (take l.change-index l.changes)
