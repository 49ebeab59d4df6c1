use Rattle.std.proofs.Common.{◌≡◌, map, take}
use Rattle.serde_json.specs.View.{view}
use Rattle.change_report.specs.ChangeData.{setting_data}
use Rattle.change_report.proofs.values.setting_values.Given as goal

abbrev pub invariant-loop-change : goal.invariant-loop-change
invariant-loop-change l = map view l.values.items ≡ map setting_data (take l.change-index l.changes)
