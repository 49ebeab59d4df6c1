use Rattle.std.proofs.Common.{◌≡◌, map, take, string_bytes}
use Rattle.machine_parts.specs.Facts.{group_of, stated_group}
use Rattle.machine_parts.proofs.facts.stated_groups.Given as goal

abbrev pub invariant-loop-row : goal.invariant-loop-row
invariant-loop-row l = map stated_group l.stated.items ≡ map (group_of (map string_bytes l.names)) (take l.row-index l.rows)
