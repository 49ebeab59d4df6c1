use Rattle.std.proofs.Common.{◌≡◌, drop}
use Rattle.status_table.specs.Widths.{ending, width}
use Rattle.status_table.proofs.widths.place_of_end.Given as goal

abbrev pub invariant-loop-place : goal.invariant-loop-place
invariant-loop-place l =
    (l.wide ≡ width (drop l.place l.characters)) × (ending l.space (drop l.place l.characters) ≡ ending l.space l.characters)
