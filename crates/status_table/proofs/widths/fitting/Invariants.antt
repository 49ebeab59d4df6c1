use Rattle.std.proofs.Common.{◌≡◌, ◌+◌, ◌++◌, drop, take}
use Rattle.status_table.specs.Widths.{front, width}
use Rattle.status_table.proofs.widths.fitting.Given as goal

abbrev pub invariant-loop-place : goal.invariant-loop-place
invariant-loop-place l =
    (take l.place l.characters ++ front l.left (drop l.place l.characters) ≡ front l.space l.characters) × (l.left + width (take l.place l.characters) ≡ l.space)
