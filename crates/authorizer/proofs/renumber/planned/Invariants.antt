use Rattle.std.proofs.Common.{◌≡◌, ◌++◌, map}
use Rattle.authorizer.specs.Renumbered.{numbered_item}
use Rattle.authorizer.specs.Stored.{map_of, user_of}
use Rattle.authorizer.proofs.Renumbering.{planned_by}
use Rattle.authorizer.proofs.renumber.planned.Given as goal

abbrev pub invariant-loop-name : goal.invariant-loop-name
invariant-loop-name g l =
    map numbered_item l.plan.items ++ planned_by (record { users = map_of user_of l.earlier; next = l.next }) l.numbers l.name-iterator
    ≡ planned_by (record { users = map_of user_of l.earlier; next = l.next }) l.numbers l.accounts.entries
