-- The effect of closing a lane.
use Rattle.std.specs.Prelude.{◌≡◌, ◌≢◌, ℕ, ◌<◌, ◌≤◌, List, [], ◌∷◌, ◌++◌, length, sum, cond, false, slice_index_or}
use Rattle.desk_rule.specs.declared.view.SeatState.TheVariants.{Worker}
use Rattle.desk_rule.specs.declared.view.LaneView.{LaneView}
use Rattle.desk_rule.specs.declared.view.TraceView.{TraceView}
use Rattle.desk_rule.specs.Lanes.{has_posted, fresh, untraced}
use Rattle.desk_rule.specs.Lanes.{is_due}

-- all amounts posted were taken, and nothing is pending
abbrev pub Settled : LaneView → TraceView → Type 0
Settled x t = (x.state ≢ Worker) × (t.posted ≡ x.taken) × (is_due t ≡ false)

-- an ask collected and not answered is answered with 0, and an amount posted and not taken is
-- taken: n octets are given back
abbrev pub Closes : TraceView → LaneView → TraceView → LaneView → ℕ → Type 0
Closes t x t' x' n =
    (t'.posted ≡ t.posted ++ cond (is_due t) (0 ∷ []) []) × Settled x' t'
    × ((more : List ℕ) × (x'.taken ≡ x.taken ++ more) × (length more ≤ 1) × (sum more ≡ n))

-- the account of a lane after its ask was answered, if one was open
abbrev pub answered : TraceView → TraceView
answered t = cond (is_due t) (has_posted 0 t) t

abbrev pub AllSettled : List TraceView → List LaneView → Type 0
AllSettled ts xs =
    (i : ℕ) → i < length xs → Settled (slice_index_or xs i fresh) (slice_index_or ts i untraced)
