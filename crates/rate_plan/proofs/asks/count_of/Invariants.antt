use Rattle.std.proofs.Common.{◌≡◌, take, count_by}
use Rattle.rate_plan.specs.Asked.{is_same_user}
use Rattle.rate_plan.proofs.asks.count_of.Given as goal

abbrev pub invariant-loop-other : goal.invariant-loop-other
invariant-loop-other l = l.count ≡ count_by (is_same_user l.transfer) (take l.other-index l.transfers)
