use Rattle.std.proofs.Common.{◌≡◌, ◌++◌, map, take}
use Rattle.std.specs.List.{flat_map}
use Rattle.std.specs.String.{string_bytes}
use Rattle.status_page.specs.Rows.{row_text}
use Rattle.status_page.specs.Shown.{row_of}
use Rattle.status_page.proofs.rows.write_rows.Given as goal

-- what is written is that of the rows so far
abbrev pub invariant-loop-row : goal.invariant-loop-row
invariant-loop-row l =
    string_bytes l.text ≡ string_bytes l.initial.text ++ flat_map row_text (map row_of (take l.row-index l.rows))
