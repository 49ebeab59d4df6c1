-- The part of a world that the desk's table shows, and the effect of its steps on that.
use Rattle.std.specs.Prelude.{◌≡◌, ◌≢◌, ℕ, List, [], ◌∷◌, Option, Some, None}
use Rattle.atomic_table.specs.Table.{State}
use Rattle.line_rates.specs.declared.ask.Ask.{Ask}
use Rattle.world_terms.specs.declared.event.LaneState.{LaneState}
use Rattle.world_terms.specs.declared.event.LaneState.TheVariants as state
use Rattle.world_terms.specs.Lanes.{Shown}
use Rattle.world_terms.specs.Lanes as world
use Rattle.desk_rule.specs.declared.view.DeskView.{DeskView}
use Rattle.desk_rule.specs.declared.view.LaneSlot.{LaneSlot}
use Rattle.desk_rule.specs.declared.view.LaneView.{LaneView}
use Rattle.desk_rule.specs.declared.view.TraceView.{TraceView}
use Rattle.desk_rule.specs.Lanes.{Phase, free, worker, asked, round, granted, Kept}

abbrev pub last_of : List Ask → Option Ask
last_of [] = None
last_of (a ∷ []) = Some a
last_of (a ∷ b ∷ xs) = last_of (b ∷ xs)

module _ {N : Type 0} where
  abbrev pub state_in : Phase N → LaneState
  state_in free = state.Free
  state_in worker = state.Worker
  state_in (asked a) = state.Asked
  state_in round = state.Round
  state_in (granted g) = state.Granted

  abbrev pub shown_of : Phase N → LaneView → TraceView → Shown
  shown_of ph x t = world.shown (state_in ph) (last_of x.asks) t.posted x.taken

  -- the part of lane i that words, slots and views show
  abbrev pub shown_in : {s : State (LaneSlot N) DeskView} → Kept s → ℕ → Shown
  shown_in r i = shown_of (r.phase i) (r.lane i) (r.trace i)

  -- the shown part of lane i changes as stated, and that of other lanes does not change
  abbrev pub Changes : {s s' : State (LaneSlot N) DeskView} → Kept s → Kept s' → ℕ
      → (Shown → Shown → Type 0) → Type 0
  Changes r r' i P =
      P (shown_in r i) (shown_in r' i) × ((j : ℕ) → j ≢ i → shown_in r' j ≡ shown_in r j)

  -- the rule is true for state s' too, and only the shown part of lane i changes, as stated
  abbrev pub StepsTo : {s : State (LaneSlot N) DeskView} → Kept s → State (LaneSlot N) DeskView → ℕ
      → (Shown → Shown → Type 0) → Type 0
  StepsTo r s' i P = (r' : Kept s') × Changes r r' i P
