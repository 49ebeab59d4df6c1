use Rattle.std.proofs.Common.{◌≡◌, map}
use Rattle.status_table.specs.Cells.{plain}
use Rattle.status_table.proofs.widths.plain_characters.Given as goal

abbrev pub invariant-loop-character : goal.invariant-loop-character
invariant-loop-character l = l.all.items ≡ map plain l.yielded
