use Rattle.std.proofs.Common.{◌≡◌, drop}
use Rattle.line_rates.specs.Stated.{has_large_user}
use Rattle.line_rates.proofs.rows.has_large_user.Given as goal

abbrev pub invariant-loop-row : goal.invariant-loop-row
invariant-loop-row l = has_large_user (drop l.row-index l.users) ≡ has_large_user l.users
