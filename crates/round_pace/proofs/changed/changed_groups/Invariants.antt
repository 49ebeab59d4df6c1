use Rattle.std.proofs.Common.{◌≡◌, map, take}
use Rattle.round_pace.specs.Changed.{changed_group}
use Rattle.round_pace.proofs.changed.changed_groups.Given as goal

abbrev pub invariant-loop-row : goal.invariant-loop-row
invariant-loop-row g l = l.changed.items ≡ map (changed_group l.groups) (take l.row-index l.rows)
