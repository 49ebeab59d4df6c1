use Rattle.std.proofs.Common.{◌≡◌, ◌++◌, drop}
use Rattle.config_change.specs.Past.{past_users}
use Rattle.config_change.proofs.past.push_users.Given as goal

abbrev pub invariant-loop-row : goal.invariant-loop-row
invariant-loop-row l =
    l.rows.items ++ past_users l.limits (drop l.row-index l.earlier) ≡ l.initial.rows.items ++ past_users l.limits l.earlier
