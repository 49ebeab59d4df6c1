use Rattle.std.proofs.Common.{◌≡◌, ◌++◌, drop, take}
use Rattle.status_table.specs.Tables.{firsts, firsts_after}
use Rattle.status_table.proofs.table.firsts.Given as goal

abbrev pub invariant-loop-place : goal.invariant-loop-place
invariant-loop-place l =
    l.users.items ++ firsts_after (take l.place l.shown) (drop l.place l.shown) ≡ firsts l.shown
