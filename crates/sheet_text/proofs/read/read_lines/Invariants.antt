use Rattle.std.proofs.Common.{◌≡◌, ◌≤◌, ◌+◌, ◌++◌, length}
use Rattle.std.specs.Str.Lines.{lines}
use Rattle.sheet_text.specs.Rows.{AreBelow}
use Rattle.sheet_text.specs.Tree.{paths_to}
use Rattle.sheet_text.specs.Sheet.{lines_taken, statements, statements_from, text_taken, want_paths}
use Rattle.sheet_text.proofs.read.read_lines.Given as goal

abbrev pub invariant-lines : goal.invariant-lines
invariant-lines g l = record {
  counted : l.number + length l.rest ≤ length l.text;
  taken : text_taken l.text ≡ lines_taken l.reading.nodes (l.number + 1) (lines l.rest);
  wants : want_paths (statements l.text) ≡ paths_to l.reading.nodes l.reading.wants.items ++ want_paths (statements_from (l.number + 1) (lines l.rest));
  below : AreBelow (length l.reading.nodes) l.reading.wants.items;
}

abbrev pub decreases-lines : goal.decreases-lines
decreases-lines g l = length l.rest
