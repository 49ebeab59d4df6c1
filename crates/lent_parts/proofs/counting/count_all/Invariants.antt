use Rattle.std.proofs.Common.{◌≡◌, ◌+◌, take}
use Rattle.std.specs.Prelude.{sum}
use Rattle.round_tally.specs.Counts.{tallied}
use Rattle.lent_parts.proofs.counting.count_all.Given as goal

abbrev pub invariant-loop-leaf : goal.invariant-loop-leaf
invariant-loop-leaf g l = tallied l.tallies ≡ tallied l.initial.tallies + sum (take l.leaf l.grants)
