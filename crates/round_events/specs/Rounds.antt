-- A round of the desk is a list of the core's events.
use Rattle.std.specs.Prelude.{◌≡◌, ℕ, ◌+◌, ◌/◌, ◌≤◌, List, length, sum, Some, None, Ok, Bool, false}
use Rattle.std.specs.List.{list_any}
use Rattle.grant_ledger.specs.declared.ledger.TheConstants.{MAX_ISSUED}
use Rattle.fair_terms.specs.Fair.{IsFair}
use Rattle.limit_tree.specs.Sharing.{LimitTree}
use Rattle.limit_tree.specs.Faults.{tree_fault}
use Rattle.limit_tree.specs.Outline.{limits}
use Rattle.limit_tree.specs.declared.place.Place.{Place}
use Rattle.line_rates.specs.declared.ask.Ask.{Ask}
use Rattle.line_rates.specs.Rates.{Rates}
use Rattle.line_rates.specs.TickTree.{Asker, IsPlan}
use Rattle.world_terms.specs.declared.event.EventAnswer.TheVariants as answer
use Rattle.world_terms.specs.Decisions.{IsLater, wants_too_much}
use Rattle.world_terms.specs.Lanes.{World}
use Rattle.desk_rule.specs.declared.view.TraceView.{TraceView}
use Rattle.lane_desk.specs.Rounded.{IsRoundOver}
use Rattle.lane_desk.specs.Tried.{asks_from}
use Rattle.round_events.specs.Events.{given_lanes, round_events, round_replies}
use Rattle.round_events.specs.Worlds.{AreFoundOn, AreShownBy, LeadsOn}

-- no ask wants more than a leaf may
abbrev pub AreSmall : List Asker → Type 0
AreSmall asks = list_any wants_too_much asks ≡ false

-- This is so of the asks of each plan whose tree has no fault, and there is no other tree
-- (`Tree::new`).
abbrev pub PlansAreSmall : Type 0
PlansAreSmall =
    (rates : Rates) (tick : ℕ) (asks : List Asker) (outline : List Place) (lanes : List ℕ)
    → IsPlan rates tick asks (limits outline) lanes → tree_fault outline ≡ None → AreSmall asks

-- Of a round at a moment in milliseconds: its grants are fair for the asks of the leaves, the tick
-- is above that of the world's last decision, and the book has room for the grants.
pub record IsDecided (rates : Rates) (moment : ℕ) (t : LimitTree) (asks : List Ask)
    (grants : List ℕ) (w : World) : Type 0 where
  pub best : IsFair rates.share_by asks t grants
  pub later : IsLater (moment / 100) w.last_tick
  pub room : w.issued + sum grants ≤ MAX_ISSUED

-- From each world that shows the lanes as the round finds them: a Collect of each given lane, a
-- Decide, and a Post of each leaf's lane, which replies with the leaf's grant, lead to a world that
-- shows the lanes as the round leaves them. The last tick is that of the round, and the octets
-- issued are more by the sum of the grants.
abbrev pub RoundIsEvents : Type 0
RoundIsEvents =
    (given : ℕ → Bool) (rates : ℕ → Rates) (moment : ℕ) (old new : List TraceView) (answered : ℕ)
    (t : LimitTree) (lanes : List ℕ) (asks : List Ask) (grants : List ℕ) (w : World)
    (r : IsRoundOver given (rates (moment / 100)) (moment / 100) old new answered t lanes asks
    grants)
    → AreSmall (asks_from 0 r.found) → IsDecided (rates (moment / 100)) moment t asks grants w
    → AreShownBy old w.lanes → AreFoundOn given r.found w.lanes
    → LeadsOn rates w (round_events (given_lanes given 0 (length old)) moment lanes)
    (round_replies r.found (given_lanes given 0 (length old))
    (Ok (answer.Decided (moment / 100) (sum grants))) grants)
    r.found new (Some (moment / 100)) (w.issued + sum grants)
