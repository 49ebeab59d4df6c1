use Rattle.std.proofs.Common.{◌≡◌, map, take}
use Rattle.line_rates.specs.TickTree.{ask_in}
use Rattle.rate_plan.proofs.shares.asks_alone.Given as goal

abbrev pub invariant-loop-asker : goal.invariant-loop-asker
invariant-loop-asker g l = map ask_in (take l.asker-index l.order) ≡ l.asks.items
