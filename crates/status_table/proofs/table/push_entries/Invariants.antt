use Rattle.std.proofs.Common.{◌≡◌, ◌++◌, take}
use Rattle.status_table.specs.Tables.{entries, texts}
use Rattle.status_table.proofs.table.push_entries.Given as goal

abbrev pub invariant-loop-transfer : goal.invariant-loop-transfer
invariant-loop-transfer l =
    texts l.lines ≡ texts l.fn.lines ++ entries l.earlier l.before l.now (take l.transfer-index l.transfers)
