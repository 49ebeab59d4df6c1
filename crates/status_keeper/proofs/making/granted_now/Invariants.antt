use Rattle.std.proofs.Common.{◌≡◌, take}
use Rattle.status_keeper.specs.Made.{granted_now}
use Rattle.status_keeper.proofs.making.granted_now.Given as goal

abbrev pub invariant-loop-row : goal.invariant-loop-row
invariant-loop-row l = l.granted ≡ granted_now l.user l.way (take l.row-index l.rows)
