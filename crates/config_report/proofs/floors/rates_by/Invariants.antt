use Rattle.std.proofs.Common.{◌≡◌, drop}
use Rattle.config_report.specs.Floors.{rates_by}
use Rattle.config_report.proofs.floors.rates_by.Given as goal

abbrev pub invariant-loop-group : goal.invariant-loop-group
invariant-loop-group l = rates_by l.groups l.name ≡ rates_by (drop l.group-index l.groups) l.name
