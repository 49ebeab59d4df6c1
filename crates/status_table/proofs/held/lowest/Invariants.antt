use Rattle.std.proofs.Common.{◌≡◌, take}
use Rattle.status_table.specs.Held.{lowest}
use Rattle.status_table.proofs.held.lowest.Given as goal

abbrev pub invariant-loop-transfer : goal.invariant-loop-transfer
invariant-loop-transfer l = l.last ≡ lowest l.past l.way (take l.transfer-index l.transfers)
