use Rattle.std.proofs.Common.{◌≡◌, take}
use Rattle.status_keeper.specs.Made.{promised}
use Rattle.status_keeper.proofs.making.promised.Given as goal

abbrev pub invariant-loop-row : goal.invariant-loop-row
invariant-loop-row l = l.total ≡ promised l.way (take l.row-index l.rows)
