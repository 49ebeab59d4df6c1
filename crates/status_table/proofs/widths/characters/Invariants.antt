use Rattle.std.proofs.Common.{◌≡◌}
use Rattle.status_table.proofs.widths.characters.Given as goal

abbrev pub invariant-loop-character : goal.invariant-loop-character
invariant-loop-character l = l.all.items ≡ l.yielded
