use Rattle.std.proofs.Common.{◌≡◌, ◌++◌, map, take}
use Rattle.status_table.specs.Heads.{group_line}
use Rattle.status_table.specs.Tables.{texts}
use Rattle.status_table.proofs.table.push_group_lines.Given as goal

abbrev pub invariant-loop-group : goal.invariant-loop-group
invariant-loop-group l =
    texts l.lines ≡ texts l.fn.lines ++ map (group_line l.before l.now) (take l.group-index l.groups)
