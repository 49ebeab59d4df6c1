use Rattle.std.proofs.Common.{◌≡◌, ◌≤◌, ◌+◌, ◌-◌, drop}
use Rattle.std.specs.Prelude.{slice_get}
use Rattle.config_file.specs.TextLines.{begin, lines_about}
use Rattle.config_file.proofs.lines.row_line.Given as goal

abbrev pub invariant-loop-index : goal.invariant-loop-index
invariant-loop-index l =
    (slice_get (lines_about l.table l.key l.behind begin l.octets) (l.row - 1) ≡ slice_get (lines_about l.table l.key l.behind l.point (drop l.index l.octets)) l.before)
    × (l.point.line ≤ l.index + 1)
    × (l.point.depth ≤ l.index)
