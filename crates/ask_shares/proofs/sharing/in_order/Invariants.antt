use Rattle.std.proofs.Common.{◌≡◌, map, take, Some}
use Rattle.std.specs.Prelude.{slice_get}
use Rattle.ask_shares.proofs.sharing.in_order.Given as goal

abbrev pub invariant-loop-place : goal.invariant-loop-place
invariant-loop-place g l = map (λ place. slice_get l.asks place) (take l.place-index l.places) ≡ map (λ ask. Some ask) l.order.items
