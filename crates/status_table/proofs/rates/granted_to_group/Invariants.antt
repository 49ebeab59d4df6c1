use Rattle.std.proofs.Common.{◌≡◌, take}
use Rattle.status_table.specs.Rates.{granted_of, is_of_group}
use Rattle.status_table.proofs.rates.granted_to_group.Given as goal

abbrev pub invariant-loop-account : goal.invariant-loop-account
invariant-loop-account l =
    l.total ≡ granted_of (is_of_group l.name) l.way (take l.account-index l.accounts)
