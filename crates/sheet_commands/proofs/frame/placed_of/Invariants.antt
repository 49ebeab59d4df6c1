use Rattle.std.proofs.Common.{◌≡◌, ◌≤◌, take}
use Rattle.std.specs.List.{fold}
use Rattle.sheet_commands.specs.Frames.{place, start}
use Rattle.sheet_commands.proofs.frame.placed_of.Given as goal

abbrev pub invariant-loop-column : goal.invariant-loop-column
invariant-loop-column g l = record {
  placing : record { placed = l.placed.items; last = l.last; number = l.number } ≡ fold place start (take l.column-index l.sorted);
  few : l.number ≤ l.column-index;
}
