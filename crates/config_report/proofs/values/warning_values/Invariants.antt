use Rattle.std.proofs.Common.{◌≡◌, map, take}
use Rattle.serde_json.specs.View.{view}
use Rattle.config_report.specs.ReportData.{warning_data}
use Rattle.config_report.proofs.values.warning_values.Given as goal

abbrev pub invariant-loop-warning : goal.invariant-loop-warning
invariant-loop-warning l = map view l.values.items ≡ map warning_data (take l.warning-index l.warnings)
