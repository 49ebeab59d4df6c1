-- Sessions that are counted under other rates.
use Rattle.std.proofs.Common.{◌≡◌, Option, Some, None, Result, Ok, Err, sym, ap}
use Rattle.line_rates.specs.Rates.{Rates}
use Rattle.rate_floors.specs.declared.carry.CarryFault.{CarryFault}
use Rattle.rate_floors.specs.Carried.{carried, carried_to, carry_fault, unless_broken}
use Rattle.rate_floors.specs.Promises.{Promises, PromisesFit}
use Rattle.round_pace.specs.Guaranteed.{AreCounted}

same_rates : (p q : Promises) → p ≡ q → q.rates ≡ p.rates
same_rates p q e = ap (λ (x : Promises). x.rates) (sym e)

taken : (f : Option CarryFault) (p q : Promises) → unless_broken f p ≡ Ok q → p ≡ q
taken None p q e = cc
taken (Some f) p q e = absurd (cc)

pub are_counted : (p q : Promises) (rates : Rates) → carried p rates ≡ Ok q → PromisesFit q → AreCounted rates q
are_counted p q rates e fit = record {
  rates_are = same_rates (carried_to p rates) q (taken (carry_fault (carried_to p rates)) (carried_to p rates) q e);
  fit = fit;
}
