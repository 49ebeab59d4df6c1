use Rattle.std.proofs.Common.{take}
use Rattle.std.specs.List.{All}
use Rattle.line_rates.specs.TickTree.{ask_in}
use Rattle.rate_plan.specs.Refused.{AreSmallFor}
use Rattle.rate_plan.proofs.small.has_large.Given as goal

abbrev pub invariant-loop-place : goal.invariant-loop-place
invariant-loop-place g l = All (λ x. AreSmallFor l.limits (ask_in x)) (take l.place l.asks)
