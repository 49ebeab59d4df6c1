use Rattle.std.proofs.Common.{◌≡◌, ◌≤◌, ◌*◌, take}
use Rattle.status_table.specs.Widths.{width}
use Rattle.status_table.proofs.widths.width.Given as goal

abbrev pub invariant-loop-character : goal.invariant-loop-character
invariant-loop-character l =
    (l.total ≡ width (take l.character-index l.characters)) × (l.total ≤ l.character-index * 3)
