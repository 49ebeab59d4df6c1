use Rattle.std.proofs.Common.{◌≡◌, ◌≤◌, ◌+◌, ◌++◌, List, length}
use Rattle.std.specs.Str.Lines.{lines}
use Rattle.sheet_commands.specs.Grants.{first_grants_fault, grant_lines, grants_fault}
use Rattle.sheet_text.specs.Text.{GrantLine}
use Rattle.sheet_commands.specs.Slots.{Filled}
use Rattle.sheet_commands.proofs.grants.read_grants.Given as goal

abbrev pub invariant-lines : goal.invariant-lines
invariant-lines g l = record {
  counted : l.number + length l.rest ≤ length l.text;
  given : List GrantLine;
  filled : Filled l.sheet l.slots given;
  fault : grants_fault l.sheet l.text ≡ first_grants_fault l.sheet (length given) (l.number + 1) (lines l.rest);
  lines_are : grant_lines (lines l.text) ≡ given ++ grant_lines (lines l.rest);
}

abbrev pub decreases-lines : goal.decreases-lines
decreases-lines g l = length l.rest
