use Rattle.std.proofs.Common.{◌≡◌, drop}
use Rattle.status_table.specs.Tables.{has_mate}
use Rattle.status_table.proofs.table.has_mate.Given as goal

abbrev pub invariant-loop-other : goal.invariant-loop-other
invariant-loop-other l =
    has_mate (drop l.other-index l.seen) l.transfer ≡ has_mate l.seen l.transfer
