use Rattle.std.proofs.Common.{◌≡◌, drop}
use Rattle.line_rates.specs.Stated.{has_large_group}
use Rattle.line_rates.proofs.rows.has_large_group.Given as goal

abbrev pub invariant-loop-row : goal.invariant-loop-row
invariant-loop-row l = has_large_group (drop l.row-index l.groups) ≡ has_large_group l.groups
