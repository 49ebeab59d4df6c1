use Rattle.std.proofs.Common.{◌≡◌, take}
use Rattle.config_report.specs.Together.{promised_down}
use Rattle.config_report.proofs.together.promised_down.Given as goal

abbrev pub invariant-loop-row : goal.invariant-loop-row
invariant-loop-row l = l.total ≡ promised_down (take l.row-index l.rows)
