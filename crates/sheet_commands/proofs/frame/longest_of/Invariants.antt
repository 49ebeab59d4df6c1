use Rattle.std.proofs.Common.{◌≡◌, length, max, take}
use Rattle.std.specs.List.{fold}
use Rattle.sheet_commands.proofs.frame.longest_of.Given as goal

abbrev pub invariant-loop-place : goal.invariant-loop-place
invariant-loop-place l = l.most ≡ fold (λ most p. max most (length p.column.path.now)) 0 (take l.place-index l.placed)
