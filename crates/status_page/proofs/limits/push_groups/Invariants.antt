use Rattle.std.proofs.Common.{◌≡◌, ◌++◌, ◌∷◌, map, take}
use Rattle.std.specs.List.{flat_map}
use Rattle.status_page.specs.Metrics.{group_rows}
use Rattle.status_page.specs.Shown.{row_of}
use Rattle.status_page.proofs.limits.push_groups.Given as goal

-- the rows are those of the groups so far
abbrev pub invariant-loop-group : goal.invariant-loop-group
invariant-loop-group l =
    map row_of l.rows.items ≡ map row_of l.initial.rows.items ++ flat_map group_rows (take l.group-index l.groups)
