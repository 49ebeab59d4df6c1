use Rattle.std.proofs.Common.{◌≡◌, drop}
use Rattle.std.specs.List.{list_any}
use Rattle.config_report.specs.Together.{has_guarantee}
use Rattle.config_report.proofs.together.has_guarantees.Given as goal

abbrev pub invariant-loop-row : goal.invariant-loop-row
invariant-loop-row l = list_any has_guarantee l.rows ≡ list_any has_guarantee (drop l.row-index l.rows)
