use Rattle.std.proofs.Common.{◌<◌}
use Rattle.std.specs.List.{AllAdjacentBelow}
use Rattle.line_rates.specs.Stated.{group_number}
use Rattle.line_rates.proofs.rows.groups_rise.Given as goal

abbrev pub invariant-loop-place : goal.invariant-loop-place
invariant-loop-place l = AllAdjacentBelow (λ x y. group_number x < group_number y) l.groups l.place
