use Rattle.std.proofs.Common.{◌<◌}
use Rattle.std.specs.List.{AllAdjacentBelow}
use Rattle.line_rates.specs.Stated.{user_number}
use Rattle.line_rates.proofs.rows.users_rise.Given as goal

abbrev pub invariant-loop-place : goal.invariant-loop-place
invariant-loop-place l = AllAdjacentBelow (λ x y. user_number x < user_number y) l.users l.place
