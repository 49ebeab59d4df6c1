use Rattle.std.proofs.Common.{◌≡◌, map, take}
use Rattle.round_pace.specs.Changed.{changed_user}
use Rattle.round_pace.proofs.changed.changed_users.Given as goal

abbrev pub invariant-loop-row : goal.invariant-loop-row
invariant-loop-row g l = l.changed.items ≡ map (changed_user l.users) (take l.row-index l.rows)
