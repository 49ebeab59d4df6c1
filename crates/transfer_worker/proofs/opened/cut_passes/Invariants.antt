use Rattle.std.proofs.Common.{◌≡◌, ◌≤◌, [], vec_capacity}
use Rattle.crossbeam_queue.specs.Passes.{view, IsPassOf}
use Rattle.transfer_worker.specs.Order.{hand}
use Rattle.transfer_worker.specs.Boards.{AreNewPasses}
use Rattle.transfer_worker.proofs.opened.cut_passes.Given as goal

abbrev pub invariant-loop : goal.invariant-loop
invariant-loop g l = IsPassOf l.queue l.first × (view l.first ≡ hand [] []) × AreNewPasses l.queue.table.shared.table_id l.counter l.passes.items × (l.counter ≤ l.count) × (l.count ≤ vec_capacity l.passes)
