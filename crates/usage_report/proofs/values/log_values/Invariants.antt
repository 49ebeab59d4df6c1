use Rattle.std.proofs.Common.{◌≡◌, map, take}
use Rattle.serde_json.specs.View.{view}
use Rattle.usage_report.specs.ReportData.{log_data}
use Rattle.usage_report.proofs.values.log_values.Given as goal

abbrev pub invariant-loop-log : goal.invariant-loop-log
invariant-loop-log l = map view l.values.items ≡ map log_data (take l.log-index l.logs)
