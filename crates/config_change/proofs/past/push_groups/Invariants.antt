use Rattle.std.proofs.Common.{◌≡◌, ◌++◌, drop}
use Rattle.config_change.specs.Past.{past_groups}
use Rattle.config_change.proofs.past.push_groups.Given as goal

abbrev pub invariant-loop-row : goal.invariant-loop-row
invariant-loop-row l =
    l.rows.items ++ past_groups l.limits (drop l.row-index l.earlier) ≡ l.initial.rows.items ++ past_groups l.limits l.earlier
