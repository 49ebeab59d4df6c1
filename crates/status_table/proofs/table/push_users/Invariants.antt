use Rattle.std.proofs.Common.{◌≡◌, ◌++◌, map, take}
use Rattle.status_table.specs.Lines.{user_line}
use Rattle.status_table.specs.Tables.{texts}
use Rattle.status_table.proofs.table.push_users.Given as goal

abbrev pub invariant-loop-transfer : goal.invariant-loop-transfer
invariant-loop-transfer l =
    texts l.lines ≡ texts l.fn.lines ++ map (λ t. user_line l.before l.now t.now) (take l.transfer-index l.users)
