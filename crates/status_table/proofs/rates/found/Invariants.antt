use Rattle.std.proofs.Common.{◌≡◌, drop}
use Rattle.std.specs.List.{find}
use Rattle.status_table.specs.Rates.{is_same}
use Rattle.status_table.proofs.rates.found.Given as goal

-- what is left to look through has the transfer that all have
abbrev pub invariant-loop-other : goal.invariant-loop-other
invariant-loop-other l =
    find (is_same l.transfer) (drop l.other-index l.past.transfers.items) ≡ find (is_same l.transfer) l.past.transfers.items
