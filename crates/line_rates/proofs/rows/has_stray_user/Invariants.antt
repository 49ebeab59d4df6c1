use Rattle.std.proofs.Common.{◌≡◌, drop}
use Rattle.line_rates.specs.Stated.{has_stray_user}
use Rattle.line_rates.proofs.rows.has_stray_user.Given as goal

abbrev pub invariant-loop-row : goal.invariant-loop-row
invariant-loop-row l = has_stray_user l.groups (drop l.row-index l.users) ≡ has_stray_user l.groups l.users
