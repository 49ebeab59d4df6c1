use Rattle.std.proofs.Common.{◌≡◌, drop}
use Rattle.rate_floors.specs.Carried.{broken_user, first_broken}
use Rattle.rate_floors.proofs.carry.first_broken_user.Given as goal

abbrev pub invariant-loop-entry : goal.invariant-loop-entry
invariant-loop-entry l = first_broken broken_user (drop l.entry-index l.users) ≡ first_broken broken_user l.users
