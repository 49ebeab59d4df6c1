use Rattle.std.proofs.Common.{◌≡◌}
use Rattle.std.specs.List.{flat_map}
use Rattle.std.specs.String.{string_bytes}
use Rattle.status_table.specs.Cells.{shown_char}
use Rattle.status_table.proofs.cells.shown.Given as goal

-- what is written is that of the characters so far
abbrev pub invariant-loop-character : goal.invariant-loop-character
invariant-loop-character l = string_bytes l.text ≡ flat_map shown_char l.yielded
