use Rattle.std.proofs.Common.{◌≡◌, ◌≤◌, ◌++◌, length}
use Rattle.std.specs.Prelude.{vec_capacity}
use Rattle.transfer_worker.specs.Boards.{AreNewPasses}
use Rattle.ftp_daemon.proofs.opening.lend_passes.Given as goal

abbrev pub invariant-loop-pass : goal.invariant-loop-pass
invariant-loop-pass g l =
    (l.yielded ++ l.pass-iterator.rest.items ≡ l.fn.passes.others.items)
    × AreNewPasses g.B.PartsName.first (length l.first.items) l.first.items
    × (length l.lent.items ≤ length l.yielded)
    × (length l.fn.passes.others.items ≤ vec_capacity l.lent)
