-- The effect of a round.
use Rattle.std.specs.Prelude.{◌≡◌, ℕ, ◌<◌, List, [], ◌∷◌, ◌++◌, length, map, slice_index, slice_index_or, Option, Some, None, Bool, cond}
use Rattle.limit_tree.specs.Sharing.{LimitTree}
use Rattle.line_rates.specs.declared.ask.Ask.{Ask}
use Rattle.line_rates.specs.Rates.{Rates}
use Rattle.line_rates.specs.TickTree.{ask_in, IsPlan}
use Rattle.grant_ledger.specs.Books.{BookView}
use Rattle.desk_rule.specs.declared.view.TraceView.{TraceView}
use Rattle.desk_rule.specs.Lanes.{has_missed, has_collected, has_posted}
use Rattle.lane_desk.specs.declared.refusal.RoundRefusal.{RoundRefusal}
use Rattle.lane_desk.specs.Refusals.{IsRefused}
use Rattle.lane_desk.specs.Tried.{every, AreOfGiven, AreMarks, asks_from}
use Rattle.lane_desk.specs.Posted.{trace_at}

-- the lane was tried once if it is given, otherwise not touched; an ask found there was answered
-- with one amount
abbrev pub IsAnswered : Bool → Option Ask → TraceView → TraceView → Type 0
IsAnswered given None t t' = t' ≡ cond given (has_missed t) t
IsAnswered given (Some a) t t' = (n : ℕ) × (t' ≡ has_posted n (has_collected a t))

-- the same, and an ask found there was answered with 0 octets
abbrev pub IsTurnedAway : Bool → Option Ask → TraceView → TraceView → Type 0
IsTurnedAway given None t t' = t' ≡ cond given (has_missed t) t
IsTurnedAway given (Some a) t t' = t' ≡ has_posted 0 (has_collected a t)

-- A round of the given lanes at a tick: `found` is what was on each lane. The plan is that of the
-- asks found, and each leaf's grant was posted on the leaf's lane; `asks` has the ask of each leaf.
-- No other lane was touched.
pub record IsRoundOver (given : ℕ → Bool) (rates : Rates) (tick : ℕ) (old new : List TraceView)
    (answered : ℕ) (tree : LimitTree) (lanes : List ℕ) (asks : List Ask) (grants : List ℕ) : Type 0
  where
    pub found : List (Option Ask)
    pub wide : length found ≡ length old
    pub still : length new ≡ length old
    pub only : AreOfGiven given found
    pub each : (i : ℕ) → i < length old
        → IsAnswered (given i) (slice_index_or found i None) (trace_at old i) (trace_at new i)
    pub marks : AreMarks found answered
    pub plan : IsPlan rates tick (asks_from 0 found) tree lanes
    pub asks_are : asks ≡ map ask_in plan.order
    pub posted : (j : ℕ) → j < length lanes
        → (trace_at new (slice_index lanes j)).posted
        ≡ (trace_at old (slice_index lanes j)).posted ++ slice_index grants j ∷ []

-- A round of all lanes.
abbrev pub IsRound : Rates → ℕ → List TraceView → List TraceView → ℕ → LimitTree → List ℕ → List Ask
    → List ℕ → Type 0
IsRound = IsRoundOver every

-- A refused round of the given lanes.
pub record IsRefusedRoundOver (A : Type 0) (given : ℕ → Bool) (rates : Rates) (tick : ℕ)
    (book : BookView) (old new : List TraceView) (answered : ℕ) (reason : RoundRefusal) : Type 0
  where
    pub found : List (Option Ask)
    pub wide : length found ≡ length old
    pub still : length new ≡ length old
    pub only : AreOfGiven given found
    pub each : (i : ℕ) → i < length old
        → IsTurnedAway (given i) (slice_index_or found i None) (trace_at old i) (trace_at new i)
    pub marks : AreMarks found answered
    pub refused : IsRefused A rates tick (asks_from 0 found) book reason

-- A refused round of all lanes.
abbrev pub IsRefusedRound : (A : Type 0) → Rates → ℕ → BookView → List TraceView
    → List TraceView → ℕ → RoundRefusal → Type 0
IsRefusedRound A = IsRefusedRoundOver A every
