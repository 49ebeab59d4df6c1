use Rattle.std.proofs.Common.{◌≡◌, take}
use Rattle.config_report.specs.Together.{promised_up}
use Rattle.config_report.proofs.together.promised_up.Given as goal

abbrev pub invariant-loop-row : goal.invariant-loop-row
invariant-loop-row l = l.total ≡ promised_up (take l.row-index l.rows)
