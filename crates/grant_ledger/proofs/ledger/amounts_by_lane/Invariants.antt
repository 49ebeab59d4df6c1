use Rattle.std.proofs.Common.{◌≡◌, drop}
use Rattle.grant_ledger.specs.Books.{by_lane}
use Rattle.grant_ledger.proofs.ledger.amounts_by_lane.Given as goal

abbrev pub invariant-loop-i : goal.invariant-loop-i
invariant-loop-i l = l.undrawn ≡ by_lane (drop l.i l.lanes) (drop l.i l.amounts)
