use Rattle.std.proofs.Common.{◌≡◌, drop}
use Rattle.fair_shares.specs.Asked.{ask_on}
use Rattle.fair_shares.proofs.asked.ask_on.Given as goal

abbrev pub invariant-loop-asker : goal.invariant-loop-asker
invariant-loop-asker l = ask_on (drop l.asker-index l.asks) l.lane ≡ ask_on l.asks l.lane
