-- The slots that the round's seat has: those of the marked lanes, the greatest lane first.
use Rattle.std.specs.Prelude.{◌≡◌, ℕ, zero, suc, ◌+◌, ◌<◌, ◌≤◌, List, [], ◌∷◌, ◌++◌, length, slice_index_or, cond, Bool, false}
use Rattle.atomic_table.specs.Table.{Me}
use Rattle.desk_rule.specs.declared.view.LaneSlot.{LaneSlot}
use Rattle.desk_rule.specs.declared.view.LaneSlot.TheVariants.{Blank}
use Rattle.desk_rule.specs.declared.view.RoundView.{RoundView}
use Rattle.desk_rule.specs.declared.view.DeskView.{DeskView}
use Rattle.desk_rule.specs.declared.view.DeskView.TheVariants.{Spent, Lane, Round}
use Rattle.desk_rule.specs.Lanes.{first_round, is_due, trace_in, posted_in, most}

module _ {N : Type 0} where
  abbrev pub slot_if : List Bool → ℕ → List (ℕ × (LaneSlot N))
  slot_if held i = cond (slice_index_or held i false) ((i, Blank) ∷ []) []

  -- those below i
  abbrev pub below : List Bool → ℕ → List (ℕ × (LaneSlot N))
  below held zero = []
  below held (suc i) = slot_if held i ++ below held i

  -- those of the n lanes from i on
  abbrev pub above : List Bool → ℕ → ℕ → List (ℕ × (LaneSlot N))
  above held i zero = []
  above held i (suc n) = above held (suc i) n ++ slot_if held i

  -- the same slots, with those below i first
  abbrev pub stack : List Bool → ℕ → ℕ → List (ℕ × (LaneSlot N))
  stack held i n = below held i ++ above held i n

abbrev pub round_in : DeskView → RoundView
round_in Spent = first_round 0
round_in (Lane k x) = first_round 0
round_in (Round sh) = sh

module _ {N : Type 0} where
  pub record KnowsDesk (m : Me (LaneSlot N) DeskView) (lanes : ℕ) (held : List Bool) : Type 0 where
    pub view_is : m.0 ≡ Round (round_in m.0)
    pub wide : length (round_in m.0).traces ≡ lanes
    pub room : lanes ≤ length held
    pub slots_are : m.1 ≡ stack held 0 lanes
    pub within : posted_in (round_in m.0).traces ≤ most
    pub marks : (i : ℕ) → i < lanes → slice_index_or held i false ≡ is_due (trace_in i m.0)
