-- An example of what a merge takes: two lanes, one round, and one of its two grants spent.
use Rattle.std.specs.Prelude.{◌≡◌, ℕ, nat_eq, if◌then◌else◌, List, [], ◌∷◌, Some, None, reverse}
use Rattle.std.specs.FinMap as map
use Rattle.atomic_table.specs.Table.{State}
use Rattle.limit_tree.specs.Sharing.{LimitTree}
use Rattle.line_rates.specs.declared.ask.Ask.{Ask}
use Rattle.line_rates.specs.declared.ask.Way.TheVariants.{Down}
use Rattle.line_rates.specs.declared.share_by.ShareBy.TheVariants as share
use Rattle.line_rates.specs.Rates.{Rates}
use Rattle.line_rates.specs.TickTree.{Asker}
use Rattle.world_terms.specs.declared.event.Event.TheVariants as event
use Rattle.world_terms.specs.declared.event.EventAnswer.TheVariants as answer
use Rattle.desk_rule.specs.declared.view.DeskView.{DeskView}
use Rattle.desk_rule.specs.declared.view.LaneSlot.{LaneSlot}
use Rattle.desk_rule.specs.Lanes.{Kept}
use Rattle.desk_rule.specs.Steps.{Done, Ran}
use Rattle.round_events.specs.Merged.{opened_table}
use Rattle.round_events.specs.Results.{RoundResult, RoundsFit}
use Rattle.round_events.specs.Spends.{SpendsFit}

-- no rate is a limit, and no user has a row
abbrev pub free_rates : Rates
free_rates =
    record {
      server = 0;
      down = 0;
      up = 0;
      groups = map.empty;
      users = map.empty;
      share_by = share.Sessions;
    }

-- two sessions of a user, each of which could move 5 octets
abbrev pub example_ask : ℕ → Ask
example_ask session = record { user = 1; session = session; way = Down; want = 5 }

abbrev pub example_asks : List Asker
example_asks = (0, example_ask 1) ∷ (1, example_ask 2) ∷ []

-- a round at moment 12,345 that grants 5 octets to each, by this tree
abbrev pub example_round : LimitTree → RoundResult
example_round t =
    record {
      found = example_asks;
      decision = Some record {
        moment = 12345;
        tree = t;
        lanes = 0 ∷ 1 ∷ [];
        grants = 5 ∷ 5 ∷ [];
      };
    }

-- lane 0 moves 4 octets of its grant; that of lane 1 is still in hand
abbrev pub example_spent : ℕ → List ℕ
example_spent i = if nat_eq 0 i then 4 ∷ [] else []

-- the steps on the table: two seats are dealt, then this
abbrev pub example_steps : List Done
example_steps =
    None ∷ None ∷ Some (event.Sit 0, answer.Done) ∷ Some (event.Sit 1, answer.Done)
    ∷ Some (event.Asked 0 (example_ask 1), answer.Done)
    ∷ Some (event.Asked 1 (example_ask 2), answer.Done) ∷ Some (event.Collect 0, answer.Got)
    ∷ Some (event.Collect 1, answer.Got) ∷ Some (event.Post 0, answer.Posted 5)
    ∷ Some (event.Post 1, answer.Posted 5) ∷ Some (event.Taken 0, answer.Taken 5)
    ∷ Some (event.Taken 1, answer.Taken 5) ∷ []

-- a desk of two lanes takes these steps, and the round and what was spent fit them
pub record IsExample (N : Type 0) : Type 0 where
  pub table : State (LaneSlot N) DeskView
  pub ran : Ran table
  pub two : ran.lanes ≡ 2
  pub steps : reverse ran.past ≡ example_steps
  pub opened : Kept (opened_table ran)
  pub tree : LimitTree
  pub rounds : RoundsFit (λ tick. free_rates) (example_round tree ∷ []) (reverse ran.past)
  pub spends : SpendsFit example_spent (reverse ran.past)
