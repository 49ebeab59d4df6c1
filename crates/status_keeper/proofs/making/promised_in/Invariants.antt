use Rattle.std.proofs.Common.{◌≡◌, take}
use Rattle.status_keeper.specs.Made.{promised_in}
use Rattle.status_keeper.proofs.making.promised_in.Given as goal

abbrev pub invariant-loop-row : goal.invariant-loop-row
invariant-loop-row l = l.total ≡ promised_in l.name l.way (take l.row-index l.rows)
