-- The order of a round's tries and answers, in lists of the desk's steps.
use Rattle.std.specs.Prelude.{◌≡◌, ℕ, ◌<◌, nat_eq, Bool, true, false, ◌||◌, List, [], ◌∷◌, length, slice_index_or, Some}
use mathlib.Core.Option.{some}
use lib.ListN.{get_elem?}
use Rattle.atomic_table.specs.Table.{State, opening}
use Rattle.world_terms.specs.declared.event.Event.TheVariants as event
use Rattle.world_terms.specs.declared.event.EventAnswer.TheVariants as answer
use Rattle.desk_rule.specs.declared.view.DeskView.{DeskView}
use Rattle.desk_rule.specs.declared.view.DeskView.TheVariants.{Round}
use Rattle.desk_rule.specs.declared.view.LaneSlot.{LaneSlot}
use Rattle.desk_rule.specs.declared.view.RoundView.{RoundView}
use Rattle.desk_rule.specs.Lanes.{first_round, is_due, untraced}
use Rattle.desk_rule.specs.Steps.{Done, TableRuns}

-- whether an ask of the lane was collected since the last answer on any lane, by the steps so far,
-- the newest first
abbrev pub is_tried : ℕ → List Done → Bool
is_tried i [] = false
is_tried i (Some (event.Post j, a) ∷ past) = false
is_tried i (Some (event.Collect j, answer.Got) ∷ past) = nat_eq j i || is_tried i past
is_tried i (d ∷ past) = is_tried i past

-- In each list of steps of a desk, by all its threads in any order: while the round may try a lane,
-- each ask that is due was collected since the last answer. So no answer is between two tries
-- of which the first found an ask that is due at the second.
abbrev pub TriesComeFirst : Type 0 → Type 0
TriesComeFirst N =
    (words : List ℕ) (slots : List (LaneSlot N)) (k : ℕ) (past : List Done)
    (s : State (LaneSlot N) DeskView) (id i : ℕ) (v : RoundView)
    → TableRuns (opening words slots (Round (first_round k))) past s
    → get_elem? s.views id ≡ some (Round v) → v.answering ≡ false → i < length v.traces
    → is_due (slice_index_or v.traces i untraced) ≡ true → is_tried i past ≡ true
