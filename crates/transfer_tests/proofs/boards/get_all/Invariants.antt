use Rattle.std.proofs.Common.{◌≤◌}
use Rattle.transfer_worker.specs.Boards.{IsOfBoard}
use Rattle.transfer_tests.proofs.boards.get_all.Given as goal

abbrev pub invariant-loop : goal.invariant-loop
invariant-loop g l =
    (goal.iterator-loop g).can_next l.iterator' × (goal.iterator-loop g).is_finite l.iterator'
    × IsOfBoard l.board l.pass × (l.next ≤ l.count)
