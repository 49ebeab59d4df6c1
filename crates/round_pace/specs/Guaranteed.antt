-- Guarantees of counted sessions in the rounds of a history.
use Rattle.std.specs.Prelude.{◌≡◌, ◌≢◌, ℕ, List, [], ◌∷◌, ◌++◌, Option, Some, None}
use Rattle.std.specs.FinMap as finite
use Rattle.line_rates.specs.declared.ask.Ask.{Ask}
use Rattle.line_rates.specs.declared.ask.Name.{Name}
use Rattle.line_rates.specs.declared.ask.Way.{Way}
use Rattle.line_rates.specs.FloorSums.{FloorsFit}
use Rattle.line_rates.specs.Rates.{Rates, rate_of, group_of, floor_rate as stated_floor}
use Rattle.line_rates.specs.Stated.{by_number}
use Rattle.rate_floors.specs.Carried.{carried_to, sessions_of}
use Rattle.rate_floors.specs.Kept.{AreOfCounted}
use Rattle.rate_floors.specs.Promises.{Promises, PromisesFit}
use Rattle.round_pace.specs.Changed.{IsChangedTo, idle}
use Rattle.round_pace.specs.Earned.{tick_of}
use Rattle.round_pace.specs.Histories.{Held, after, after_all, AreHeld}
use Rattle.round_pace.specs.Offered.{offer_round, floor_rate, owed_of, line_parts, user_parts}
use Rattle.round_pace.specs.declared.paced.UserPace.{UserPace}
use Rattle.round_pace.specs.Paced.{Paced, pace_number, IsPacedFrom}
use Rattle.round_pace.specs.Stretches.{Stretch, Lead}

-- counted sessions whose guarantees are within these rates
pub record AreCounted (rates : Rates) (p : Promises) : Type 0 where
  pub rates_are : p.rates ≡ rates
  pub fit : PromisesFit p

-- the same sessions, counted under the rates that a round in a tick is offered
abbrev pub counted_in : ℕ → Paced → Promises → Promises
counted_in tick pace p = carried_to p (offer_round tick pace).offered

-- the debt to each session of a user in a pace, and the thousandths of ticks that each of its rates
-- has left
abbrev pub owed_in_row : Way → Option UserPace → ℕ
owed_in_row way None = 0
owed_in_row way (Some u) = owed_of way u

abbrev pub owed_to : Way → ℕ → Paced → ℕ
owed_to way user p = owed_in_row way (finite.get (by_number pace_number p.users) user)

abbrev pub parts_in_row : Way → Paced → Option UserPace → ℕ
parts_in_row way p None = 0
parts_in_row way p (Some u) = user_parts way (line_parts way p) p.groups u

abbrev pub parts_for : Way → ℕ → Paced → ℕ
parts_for way user p = parts_in_row way p (finite.get (by_number pace_number p.users) user)

-- The guarantees of sessions in a round that a pace offers in a tick, if these rates are in force.
pub record IsGuaranteed (rates : Rates) (tick : ℕ) (pace : Paced) : Type 0 where
  -- each rate that is a limit is offered as one, and each user stays in their group
  pub limits : (n : Name) → rate_of rates n ≢ 0 → rate_of (offer_round tick pace).offered n ≢ 0
  pub groups : (user : ℕ) → group_of (offer_round tick pace).offered user ≡ group_of rates user
  -- the guarantee of each session of a user: what it is owed, and at most that of the parts of
  -- ticks that each of its rates has left
  pub floors : (way : Way) (user : ℕ)
      → stated_floor (finite.get (offer_round tick pace).offered.users user) way
      ≡ floor_rate (stated_floor (finite.get rates.users user) way)
      (owed_to way user (offer_round tick pace)) (parts_for way user (offer_round tick pace))
  -- under the rates offered, as many sessions are counted of each user,
  pub sessions : (p : Promises) → AreCounted rates p → (user : ℕ)
      → sessions_of (counted_in tick pace p) user ≡ sessions_of p user
  -- the guarantees of all of them are within each rate,
  pub fit : (p : Promises) → AreCounted rates p → PromisesFit (counted_in tick pace p)
  -- and what any asks of theirs are guaranteed is within the limit of each name.
  pub asks : (p : Promises) (xs : List Ask) → AreCounted rates p → AreOfCounted p xs → (at : ℕ)
      → FloorsFit (offer_round tick pace).offered at xs

-- each of these rounds from a pace on, one after another, if these rates are in force
abbrev pub AreGuaranteed : Rates → Paced → List Held → Type 0
AreGuaranteed rates p [] = Unit {0}
AreGuaranteed rates p (h ∷ hs) =
    IsGuaranteed rates (tick_of h.now) p × AreGuaranteed rates (after p h) hs

-- stretches that lead from one pace to another, and each of their rounds under its rates
abbrev pub LeadGuaranteed : Paced → List Stretch → Paced → Type 0
LeadGuaranteed p [] q = p ≡ q
LeadGuaranteed p (s ∷ ss) q = (first : Paced) × IsChangedTo s.rates p first
    × AreHeld first s.rounds × AreGuaranteed s.rates first s.rounds
    × LeadGuaranteed (after_all first s.rounds) ss q

-- Guarantees that are within the rates in force are within what each round of each stretch was
-- offered,
abbrev pub StretchesAreGuaranteed : Type 0
StretchesAreGuaranteed = (begun : ℕ) (ss : List Stretch) (p : Paced) → Lead (idle begun) ss p
    → LeadGuaranteed (idle begun) ss p

-- so too what the next round is offered, in whatever tick it is held,
abbrev pub NextIsGuaranteed : Type 0
NextIsGuaranteed = (begun : ℕ) (ss : List Stretch) (s : Stretch) (p : Paced)
    → Lead (idle begun) (ss ++ s ∷ []) p → (tick : ℕ) → IsGuaranteed s.rates tick p

-- and what each round of a pace was offered whose rates are never changed.
abbrev pub HistoriesAreGuaranteed : Type 0
HistoriesAreGuaranteed = (begun : ℕ) (rates : Rates) (p : Paced) (hs : List Held)
    → IsPacedFrom begun rates p → AreHeld p hs → AreGuaranteed rates p hs
