use Rattle.std.proofs.Common.{◌≡◌, drop}
use Rattle.rate_floors.specs.Carried.{broken_sums, first_broken}
use Rattle.rate_floors.proofs.carry.first_broken_group.Given as goal

abbrev pub invariant-loop-entry : goal.invariant-loop-entry
invariant-loop-entry l = first_broken broken_sums (drop l.entry-index l.groups) ≡ first_broken broken_sums l.groups
