use Rattle.std.proofs.Common.{◌≡◌, take}
use Rattle.status_table.specs.Rates.{anybody, granted_of}
use Rattle.status_table.proofs.rates.granted_to_all.Given as goal

abbrev pub invariant-loop-account : goal.invariant-loop-account
invariant-loop-account l =
    l.total ≡ granted_of anybody l.way (take l.account-index l.accounts)
