use Rattle.std.proofs.Common.{◌≡◌, ◌+◌, ◌≤◌, length}
use Rattle.std.specs.Prelude.{vec_capacity}
use Rattle.lane_desk.specs.Workers.{AreWorkers, moved_by_all}
use Rattle.lent_parts.specs.Reported.{moved_by_lent}
use Rattle.lent_parts.proofs.settlement.gather.Given as goal

abbrev pub invariant-loop-worker : goal.invariant-loop-worker
invariant-loop-worker g l =
    (length l.gathered.items + length l.workers.items ≤ vec_capacity l.gathered)
    × AreWorkers g.B.PartsName.desk (length l.gathered.items) l.gathered.items
    × (moved_by_all l.gathered.items + moved_by_lent l.workers.items ≡ moved_by_lent l.fn.workers.items)

abbrev pub decreases-loop-worker : goal.decreases-loop-worker
decreases-loop-worker g l = length l.workers.items
