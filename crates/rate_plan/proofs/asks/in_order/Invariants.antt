use Rattle.std.proofs.Common.{◌≡◌, map, take, Some}
use Rattle.std.specs.Prelude.{slice_get}
use Rattle.rate_plan.proofs.asks.in_order.Given as goal

abbrev pub invariant-loop-lane : goal.invariant-loop-lane
invariant-loop-lane g l = map (λ lane. slice_get l.asks lane) (take l.lane-index l.lanes) ≡ map (λ ask. Some ask) l.order.items
