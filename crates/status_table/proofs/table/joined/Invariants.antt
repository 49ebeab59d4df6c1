use Rattle.std.proofs.Common.{◌≡◌, map, take, string_bytes}
use Rattle.status_table.specs.Tables.{joined}
use Rattle.status_table.proofs.table.joined.Given as goal

abbrev pub invariant-loop-line : goal.invariant-loop-line
invariant-loop-line l =
    string_bytes l.screen ≡ joined (map string_bytes (take l.line-index l.lines))
