use Rattle.std.proofs.Common.{◌≡◌, ◌≤◌, take}
use Rattle.status_table.specs.Rates.{waiting}
use Rattle.status_table.proofs.rates.waiting.Given as goal

abbrev pub invariant-loop-transfer : goal.invariant-loop-transfer
invariant-loop-transfer l = (l.count ≡ waiting (take l.transfer-index l.transfers)) × (l.count ≤ l.transfer-index)
