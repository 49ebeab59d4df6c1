-- Fair grants of a plan, and grants assigned to lanes by number.
use Rattle.std.specs.Prelude.{◌≡◌, ◌≤◌, ℕ, List, [], ◌∷◌, slice_get, slice_index_or, slice_set, Some, ⊤}
use Rattle.grant_ledger.specs.Books.{NamesNot}
use Rattle.line_rates.specs.FloorSums.{FloorsFit}
use Rattle.line_rates.specs.Rates.{Rates, rate_of}
use Rattle.line_rates.specs.declared.ask.Name.{Name}
use Rattle.line_rates.specs.declared.rate.TheConstants.{MAX_RATE}
use Rattle.line_rates.specs.TickTree.{Asker, IsPlan, ask_in}
use Rattle.fair_terms.specs.Fair.{IsFair}
use Rattle.fair_terms.specs.Wants.{HasLargeUser}
use Rattle.limit_tree.specs.Sharing.{LimitTree}
use Rattle.std.specs.Prelude.{map}
use Rattle.world_terms.specs.declared.event.LaneState.TheVariants as state
use Rattle.world_terms.specs.declared.fault.StepFault.{StepFault}
use Rattle.world_terms.specs.declared.fault.StepFault.TheVariants as fault
use Rattle.world_terms.specs.Decisions.{IsPosted, with_amount}
use Rattle.world_terms.specs.Lanes.{Lane, new_lane}

-- each amount is decided for its lane
abbrev pub dealt : List ℕ → List ℕ → List Lane → List Lane
dealt [] amounts ls = ls
dealt (i ∷ numbers) [] ls = ls
dealt (i ∷ numbers) (n ∷ amounts) ls =
    dealt numbers amounts (slice_set ls i (with_amount n (slice_index_or ls i new_lane)))

-- lane i is in Round, and nothing is decided for it
pub record IsOpen (i : ℕ) (ls : List Lane) : Type 0 where
  pub lane : Lane
  pub there : slice_get ls i ≡ Some lane
  pub round : lane.shown.state ≡ state.Round
  pub posted : IsPosted lane

-- all these lanes are in Round with nothing decided for them, and each occurs once
abbrev pub AreOpen : List ℕ → List Lane → Type 0
AreOpen [] ls = ⊤
AreOpen (i ∷ numbers) ls = IsOpen i ls × NamesNot i numbers × AreOpen numbers ls

-- a plan for these asks in a tick, with fair grants of its leaves
pub record IsFairPlan (rates : Rates) (tick : ℕ) (asks : List Asker) (t : LimitTree)
    (lanes grants : List ℕ) : Type 0 where
  pub plan : IsPlan rates tick asks t lanes
  pub fair : IsFair rates.share_by (map ask_in plan.order) t grants

-- why no fair grants were found for these asks in a tick
abbrev pub IsUnshared : Rates → ℕ → List Asker → StepFault → Type 0
IsUnshared rates tick asks fault.FloorsOver = FloorsFit rates tick (map ask_in asks) → ⊥
IsUnshared rates tick asks fault.Unshared = HasLargeUser rates.share_by (map ask_in asks)
IsUnshared rates tick asks fault.Memory = ⊤
IsUnshared rates tick asks f = ⊥

-- no rate is larger than a rate may be
abbrev pub AreFitRates : Rates → Type 0
AreFitRates rates = (name : Name) → rate_of rates name ≤ MAX_RATE
