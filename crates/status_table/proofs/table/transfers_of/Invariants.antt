use Rattle.std.proofs.Common.{◌≡◌, map, take}
use Rattle.status_table.proofs.table.transfers_of.Given as goal

abbrev pub invariant-loop-transfer : goal.invariant-loop-transfer
invariant-loop-transfer l = map (λ t. t.now) l.refs.items ≡ take l.transfer-index l.now.transfers.items
