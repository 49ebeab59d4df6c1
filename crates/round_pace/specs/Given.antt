-- Guarantees that a round gives.
use Rattle.std.specs.Prelude.{◌≤◌, min}
use Rattle.std.specs.FinMap as finite
use Rattle.std.specs.List.{All}
use Rattle.line_rates.specs.Granted.{Granted}
use Rattle.line_rates.specs.Rates.{Rates, floor_rate as stated_floor}
use Rattle.round_pace.specs.Earned.{tick_of}
use Rattle.round_pace.specs.FloorsFit.{floor_in}
use Rattle.round_pace.specs.Guaranteed.{IsGuaranteed, owed_to, parts_for}
use Rattle.round_pace.specs.Histories.{Held, IsHeld}
use Rattle.round_pace.specs.Offered.{offer_round}
use Rattle.round_pace.specs.Paced.{Paced}

-- an ask has what it wants, or what its session is owed for the parts of ticks that its rates have
-- left
abbrev pub IsGiven : Rates → Paced → Granted → Type 0
IsGiven rates p g =
    min g.ask.want
    (floor_in (stated_floor (finite.get rates.users g.ask.user) g.ask.way)
    (owed_to g.ask.way g.ask.user p) (parts_for g.ask.way g.ask.user p))
    ≤ g.octets

-- In a round that was held, each ask has that, if these rates are in force.
abbrev pub RoundsGive : Type 0
RoundsGive = (rates : Rates) (p : Paced) (h : Held) → IsGuaranteed rates (tick_of h.now) p
    → IsHeld p h → All (IsGiven rates (offer_round (tick_of h.now) p)) h.leaves
