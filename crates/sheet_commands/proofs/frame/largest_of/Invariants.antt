use Rattle.std.proofs.Common.{◌≡◌, ◌≤◌, max, take}
use Rattle.std.specs.List.{fold}
use Rattle.sheet_commands.proofs.frame.largest_of.Given as goal

abbrev pub invariant-loop-place : goal.invariant-loop-place
invariant-loop-place l = record {
  most : l.most ≡ fold (λ most p. max most p.column.grant) 1 (take l.place-index l.placed);
  some : 1 ≤ l.most;
}
