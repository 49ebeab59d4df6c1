-- Each round of a history is offered what counted sessions are guaranteed.
use Rattle.std.proofs.Common.{◌≡◌, ℕ, List, [], ◌∷◌, ◌++◌, ◌∙◌, subst}
use Rattle.line_rates.specs.Rates.{Rates}
use Rattle.rate_floors.specs.Kept.{PromisesAreKept}
use Rattle.round_pace.specs.Changed.{idle}
use Rattle.round_pace.specs.Earned.{tick_of}
use Rattle.round_pace.specs.Guaranteed.{IsGuaranteed, AreGuaranteed, LeadGuaranteed, StretchesAreGuaranteed, NextIsGuaranteed, HistoriesAreGuaranteed}
use Rattle.round_pace.specs.Histories.{Held, after, after_all, AreHeld, rates_of}
use Rattle.round_pace.specs.Paced.{Paced}
use Rattle.round_pace.specs.Stretches.{Stretch, Lead}
use Rattle.round_pace.proofs.Guarantees.{guaranteed}
use Rattle.round_pace.proofs.Holding.{good_after}
use Rattle.round_pace.proofs.Limits.{IsWhole}
use Rattle.round_pace.proofs.Starting.{Good, good_changed, good_new, whole_idle}
use Rattle.round_pace.proofs.StatedRates.{new_rates, rates_stay}
use Rattle.round_pace.proofs.Stretching.{good_last, changed_rates}

module _ (law : PromisesAreKept) where
  rounds_guaranteed : (rates : Rates) (p : Paced) (hs : List Held) → Good rates p → rates_of p ≡ rates → AreHeld p hs → AreGuaranteed rates p hs
  rounds_guaranteed rates p [] good are held = tt
  rounds_guaranteed rates p (h ∷ hs) good are held = (
    guaranteed law rates (tick_of h.now) p good are,
    rounds_guaranteed rates (after p h) hs (good_after rates p h good held.0) (rates_stay p h ∙ are) held.1,
  )

  lead_guaranteed : (p : Paced) (ss : List Stretch) (q : Paced) → IsWhole p.moment → Lead p ss q → LeadGuaranteed p ss q
  lead_guaranteed p [] q whole lead = lead
  lead_guaranteed p (s ∷ ss) q whole lead =
      let good : Good s.rates lead.0 = good_changed s.rates p lead.0 lead.1 whole in
      let last : Good s.rates (after_all lead.0 s.rounds) = good_last s.rates lead.0 s.rounds good lead.2 in (
        lead.0,
        lead.1,
        lead.2,
        rounds_guaranteed s.rates lead.0 s.rounds good (changed_rates s.rates p lead.0 lead.1) lead.2,
        lead_guaranteed (after_all lead.0 s.rounds) ss q last.whole lead.3,
      )

  rates_last : (rates : Rates) (p : Paced) (hs : List Held) → rates_of p ≡ rates → rates_of (after_all p hs) ≡ rates
  rates_last rates p [] are = are
  rates_last rates p (h ∷ hs) are = rates_last rates (after p h) hs (rates_stay p h ∙ are)

  next_guaranteed : (p : Paced) (ss : List Stretch) (s : Stretch) (q : Paced) → IsWhole p.moment → Lead p (ss ++ s ∷ []) q → (tick : ℕ) → IsGuaranteed s.rates tick q
  next_guaranteed p [] s q whole lead tick =
      subst (IsGuaranteed s.rates tick) lead.3
      (guaranteed law s.rates tick (after_all lead.0 s.rounds) (good_last s.rates lead.0 s.rounds (good_changed s.rates p lead.0 lead.1 whole) lead.2)
      (rates_last s.rates lead.0 s.rounds (changed_rates s.rates p lead.0 lead.1)))
  next_guaranteed p (x ∷ ss) s q whole lead tick =
      let last : Good x.rates (after_all lead.0 x.rounds) = good_last x.rates lead.0 x.rounds (good_changed x.rates p lead.0 lead.1 whole) lead.2 in
      next_guaranteed (after_all lead.0 x.rounds) ss s q last.whole lead.3 tick

  pub stretches_are_guaranteed : StretchesAreGuaranteed
  stretches_are_guaranteed begun ss p lead = lead_guaranteed (idle begun) ss p whole_idle lead

  pub next_is_guaranteed : NextIsGuaranteed
  next_is_guaranteed begun ss s p lead tick = next_guaranteed (idle begun) ss s p whole_idle lead tick

  pub histories_are_guaranteed : HistoriesAreGuaranteed
  histories_are_guaranteed begun rates p hs from held = rounds_guaranteed rates p hs (good_new begun rates p from) (new_rates begun rates p from) held
