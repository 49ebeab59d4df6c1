-- The paces that a history reaches.
use Rattle.std.proofs.Common.{◌≡◌, ℕ, List, [], ◌∷◌, ◌++◌, sym, refl, ap, ◌∙◌, subst}
use Rattle.line_rates.specs.Rates.{Rates}
use Rattle.round_pace.specs.Changed.{idle, IsChangedTo}
use Rattle.round_pace.specs.Guaranteed.{IsGuaranteed, NextIsGuaranteed}
use Rattle.round_pace.specs.Histories.{Held, after, after_all, IsHeld, AreHeld, rates_of, RatesStay}
use Rattle.round_pace.specs.Paced.{Paced}
use Rattle.round_pace.specs.Stretches.{Stretch, Lead, ChangedRates, NewIsChanged}
use Rattle.guarantee_laws.specs.Reached.{stretch, IsReached, NewIsReached, EachRoundIsReached}

abbrev Last : Paced → Rates → List Held → Paced → Type 0
Last p rates hs q = Lead p (stretch rates hs ∷ []) q

pub all_append : (p : Paced) (hs : List Held) (h : Held) → after_all p (hs ++ h ∷ []) ≡ after (after_all p hs) h
all_append p [] h = refl
all_append p (x ∷ hs) h = all_append (after p x) hs h

all_more : (p : Paced) (hs more : List Held) → after_all p (hs ++ more) ≡ after_all (after_all p hs) more
all_more p [] more = refl
all_more p (x ∷ hs) more = all_more (after p x) hs more

held_append : (p : Paced) (hs : List Held) (h : Held) → AreHeld p hs → IsHeld (after_all p hs) h → AreHeld p (hs ++ h ∷ [])
held_append p [] h held one = (one, tt)
held_append p (x ∷ hs) h held one = (held.0, held_append (after p x) hs h held.1 one)

pub held_first : (p : Paced) (hs more : List Held) → AreHeld p (hs ++ more) → AreHeld p hs
held_first p [] more held = tt
held_first p (x ∷ hs) more held = (held.0, held_first (after p x) hs more held.1)

pub held_rest : (p : Paced) (hs more : List Held) → AreHeld p (hs ++ more) → AreHeld (after_all p hs) more
held_rest p [] more held = held
held_rest p (x ∷ hs) more held = held_rest (after p x) hs more held.1

-- the last stretch with one round more
lead_more : (p : Paced) (ss : List Stretch) (rates : Rates) (hs : List Held) (q : Paced) (h : Held) → Lead p (ss ++ stretch rates hs ∷ []) q → IsHeld q h → Lead p (ss ++ stretch rates (hs ++ h ∷ []) ∷ []) (after q h)
lead_more p [] rates hs q h lead one = (
  lead.0,
  lead.1,
  held_append lead.0 hs h lead.2 (subst (λ (x : Paced). IsHeld x h) (sym lead.3) one),
  all_append lead.0 hs h ∙ ap (λ (x : Paced). after x h) lead.3,
)
lead_more p (s ∷ ss) rates hs q h lead one = (lead.0, lead.1, lead.2, lead_more (after_all lead.0 s.rounds) ss rates hs q h lead.3 one)

pub reached_next : (rates : Rates) (p : Paced) (h : Held) → IsReached rates p → IsHeld p h → IsReached rates (after p h)
reached_next rates p h at held = record {
  begun = at.begun;
  stretches = at.stretches;
  rounds = at.rounds ++ h ∷ [];
  lead = lead_more (idle at.begun) at.stretches rates at.rounds p h at.lead held;
}

pub reached_all : (rates : Rates) (p : Paced) (hs : List Held) → IsReached rates p → AreHeld p hs → IsReached rates (after_all p hs)
reached_all rates p [] at held = at
reached_all rates p (h ∷ hs) at held = reached_all rates (after p h) hs (reached_next rates p h at held.0) held.1

pub new_is_reached : NewIsChanged → NewIsReached
new_is_reached changed begun rates p from = record { begun = begun; stretches = []; rounds = []; lead = (p, changed begun rates p from, tt, refl) }

-- the stretches before a round
lead_first : (p : Paced) (ss : List Stretch) (rates : Rates) (before hs : List Held) (more : List Stretch) (q : Paced) → Lead p (ss ++ stretch rates (before ++ hs) ∷ more) q
    → (x : Paced) × Lead p (ss ++ stretch rates before ∷ []) x × AreHeld x hs
lead_first p [] rates before hs more q lead = (
  after_all lead.0 before,
  (lead.0, lead.1, held_first lead.0 before hs lead.2, refl),
  held_rest lead.0 before hs lead.2,
)
lead_first p (s ∷ ss) rates before hs more q lead =
    let rest = lead_first (after_all lead.0 s.rounds) ss rates before hs more q lead.3 in
    (rest.0, (lead.0, lead.1, lead.2, rest.1), rest.2)

pub each_round_is_reached : EachRoundIsReached
each_round_is_reached begun ss rates before hs more q lead =
    let first = lead_first (idle begun) ss rates before hs more q lead in
    (first.0, record { begun = begun; stretches = ss; rounds = before; lead = first.1 }, first.2)

-- the last stretch of a history begins with a pace that was changed to its rates
pub last_begins : (p : Paced) (ss : List Stretch) (rates : Rates) (hs : List Held) (q : Paced) → Lead p (ss ++ stretch rates hs ∷ []) q → (old first : Paced) × IsChangedTo rates old first × (after_all first hs ≡ q)
last_begins p [] rates hs q lead = (p, lead.0, lead.1, lead.3)
last_begins p (s ∷ ss) rates hs q lead = last_begins (after_all lead.0 s.rounds) ss rates hs q lead.3

-- the pace has the rates that are in force
module _ (changed : ChangedRates) (stay : RatesStay) where
  rates_last : (rates : Rates) (p : Paced) (hs : List Held) → rates_of p ≡ rates → rates_of (after_all p hs) ≡ rates
  rates_last rates p [] are = are
  rates_last rates p (h ∷ hs) are = rates_last rates (after p h) hs (stay p h ∙ are)

  pub rates_reached : (rates : Rates) (p : Paced) → IsReached rates p → rates_of p ≡ rates
  rates_reached rates p at =
      let last = last_begins (idle at.begun) at.stretches rates at.rounds p at.lead in
      subst (λ (x : Paced). rates_of x ≡ rates) last.3 (rates_last rates last.1 at.rounds (changed rates last.0 last.1 last.2))

pub guaranteed_next : NextIsGuaranteed → (rates : Rates) (p : Paced) → IsReached rates p → (tick : ℕ) → IsGuaranteed rates tick p
guaranteed_next next rates p at tick = next at.begun at.stretches (stretch rates at.rounds) p at.lead tick
