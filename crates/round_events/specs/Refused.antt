-- A refused round of the desk is a list of the core's events, whose decision is refused.
use Rattle.std.specs.Prelude.{◌≡◌, ℕ, ◌/◌, ◌≤◌, if◌then◌else◌, List, length, map, Err, Bool}
use Rattle.std.specs.List.{list_any}
use Rattle.limit_tree.specs.declared.fault.TreeFault.TheVariants.{FloorsOverLimit}
use Rattle.line_rates.specs.Rates.{Rates}
use Rattle.line_rates.specs.TickTree.{Asker, lane_in}
use Rattle.grant_ledger.specs.Books.{BookView}
use Rattle.world_terms.specs.declared.fault.StepFault.{StepFault}
use Rattle.world_terms.specs.declared.fault.StepFault.TheVariants as fault
use Rattle.world_terms.specs.Decisions.{wants_too_much}
use Rattle.world_terms.specs.Lanes.{World}
use Rattle.grant_ledger.specs.declared.ledger.TheConstants.{MAX_LANES}
use Rattle.share_world.specs.Shares.{AreFitRates}
use Rattle.desk_rule.specs.declared.view.TraceView.{TraceView}
use Rattle.lane_desk.specs.declared.refusal.RoundRefusal.{RoundRefusal}
use Rattle.lane_desk.specs.declared.refusal.RoundRefusal.TheVariants as reason
use Rattle.lane_desk.specs.Posted.{nothing_for}
use Rattle.lane_desk.specs.Rounded.{IsRefusedRoundOver}
use Rattle.lane_desk.specs.Tried.{asks_from}
use Rattle.round_events.specs.Events.{given_lanes, round_events, round_replies}
use Rattle.round_events.specs.Worlds.{AreFoundOn, AreShownBy, LeadsOn}

-- the core's word for the reason of a refusal
abbrev pub fault_for : RoundRefusal → StepFault
fault_for (reason.NotYet last) = fault.NotYet last
fault_for reason.BookFull = fault.BookFull
fault_for reason.Unshared = fault.Unshared
fault_for reason.Memory = fault.Memory
fault_for (reason.Plan (FloorsOverLimit branch)) = fault.FloorsOver
fault_for (reason.Plan other) = fault.TooMuch

-- the core's refusal of a decision that the desk refuses for this reason: after the tick, the core
-- checks the wants of the asks first
abbrev pub refusal_for : List Asker → RoundRefusal → StepFault
refusal_for asks (reason.NotYet last) = fault.NotYet last
refusal_for asks why =
    if list_any wants_too_much asks then fault.TooMuch else fault_for why

-- the world has the last tick and the octets issued of the book
pub record HasBook (book : BookView) (w : World) : Type 0 where
  pub last_is : w.last_tick ≡ book.last_tick
  pub issued_is : w.issued ≡ book.issued

-- Of at most 64 lanes, and rates that are not too large: from each world that shows the lanes as
-- the round finds them, and the book, a Collect of each given lane, a Decide that is refused for
-- the same reason, and a Post of each lane with an ask, which replies with 0 octets, lead to a
-- world that shows the lanes as the round leaves them, with the same last tick and the same octets
-- issued.
abbrev pub RefusedRoundIsEvents : Type 0 → Type 0
RefusedRoundIsEvents A =
    (given : ℕ → Bool) (rates : ℕ → Rates) (moment : ℕ) (book : BookView)
    (old new : List TraceView) (answered : ℕ) (why : RoundRefusal) (w : World)
    (r : IsRefusedRoundOver A given (rates (moment / 100)) (moment / 100) book old new answered why)
    → AreFitRates (rates (moment / 100)) → length old ≤ MAX_LANES → HasBook book w
    → AreShownBy old w.lanes → AreFoundOn given r.found w.lanes
    → LeadsOn rates w
    (round_events (given_lanes given 0 (length old)) moment (map lane_in (asks_from 0 r.found)))
    (round_replies r.found (given_lanes given 0 (length old))
    (Err (refusal_for (asks_from 0 r.found) why)) (map nothing_for (asks_from 0 r.found)))
    r.found new w.last_tick w.issued
