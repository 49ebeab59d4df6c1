-- The asks of lanes, and plans with the ask of each leaf.
use Rattle.std.specs.Prelude.{◌≡◌, ℕ, ◌≤◌, nat_eq, if◌then◌else◌, List, [], ◌∷◌, map, count_by, Option, Some, None}
use Rattle.std.specs.List.{filter_map}
use Rattle.limit_tree.specs.Sharing.{LimitTree}
use Rattle.line_rates.specs.declared.ask.Ask.{Ask}
use Rattle.line_rates.specs.Rates.{Rates}
use Rattle.line_rates.specs.TickTree.{Asker, ask_in, lane_in, IsPlan}

-- the first ask of a lane, and the asks of a list of lanes, in the order of the lanes
abbrev pub ask_on : List Asker → ℕ → Option Ask
ask_on [] lane = None
ask_on (x ∷ xs) lane = if nat_eq (lane_in x) lane then Some (ask_in x) else ask_on xs lane

abbrev pub asks_on : List Asker → List ℕ → List Ask
asks_on xs lanes = filter_map (ask_on xs) lanes

-- no two asks are of one lane
abbrev pub AreApart : List Asker → Type 0
AreApart xs = (lane : ℕ) → count_by (λ x. nat_eq (lane_in x) lane) xs ≤ 1

-- A plan for `asks`, with the ask of each leaf in the order of the leaves.
pub record IsAskedPlan (rates : Rates) (tick : ℕ) (asks : List Asker) (t : LimitTree)
    (lanes : List ℕ) (leaf_asks : List Ask) : Type 0 where
  pub plan : IsPlan rates tick asks t lanes
  pub asks_are : leaf_asks ≡ map ask_in plan.order
