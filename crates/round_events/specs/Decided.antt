-- One decision: what the core decides is what a plan with fair grants decides.
use Rattle.std.specs.Prelude.{◌≡◌, ◌<◌, ◌↔◌, ℕ, zero, suc, List, [], ◌∷◌, length, slice_index, Option, Some, None}
use Rattle.limit_tree.specs.Sharing.{LimitTree}
use Rattle.line_rates.specs.Rates.{Rates}
use Rattle.share_world.specs.Shares.{IsFairPlan}
use Rattle.world_terms.specs.Decisions.{AllPosted, AreGiven, IsShared, in_round}
use Rattle.world_terms.specs.Lanes.{Lane}

-- the amount decided for lane i and not posted, if there is one
abbrev pub decided_on : List Lane → ℕ → Option ℕ
decided_on [] i = None
decided_on (l ∷ ls) zero = l.hidden.decided
decided_on (l ∷ ls) (suc i) = decided_on ls i

-- A plan for the asks of the lanes in Round, with fair grants; each leaf's grant is decided for the
-- leaf's lane, and nothing for any other lane.
pub record IsPlanned (rates : Rates) (tick : ℕ) (before after : List Lane) : Type 0 where
  pub given : AreGiven before after
  pub tree : LimitTree
  pub lanes : List ℕ
  pub grants : List ℕ
  pub shares : IsFairPlan rates tick (in_round before) tree lanes grants
  pub decided : (j : ℕ) → j < length lanes
      → decided_on after (slice_index lanes j) ≡ Some (slice_index grants j)

-- If nothing is decided and not posted, this is the decision of the core.
abbrev pub OneDecision : Type 0
OneDecision =
    (rates : Rates) (tick : ℕ) (before after : List Lane) → AllPosted before
    → IsShared rates tick before after ↔ IsPlanned rates tick before after
