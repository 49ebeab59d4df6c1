-- The order of the leaves of a plan: for alike asks that of the asks.
use Rattle.std.specs.Prelude.{◌≡◌, ℕ, ◌<◌, ◌≤◌, ◌⊎◌, List, map, count_by, slice_get, Some}
use Rattle.std.specs.List.{All}
use Rattle.limit_tree.specs.Sharing.{LimitTree}
use Rattle.line_rates.specs.declared.ask.Ask.{Ask}
use Rattle.line_rates.specs.declared.ask.Name.{Name}
use Rattle.line_rates.specs.Names.{bears}
use Rattle.line_rates.specs.Rates.{Rates, group_of}
use Rattle.line_rates.specs.TickTree.{Asker, ask_in, IsPlan}

-- Alike: users of one group, or of none; and each name that only one of the two asks counts under
-- is of no two asks.
pub record AreAlike (rates : Rates) (asks : List Ask) (a b : Ask) : Type 0 where
  pub group : group_of rates a.user ≡ group_of rates b.user
  pub names : (n : Name)
      → (bears rates n a ≡ bears rates n b) ⊎ (count_by (bears rates n) asks ≤ 1)

-- an ask with its index among all asks
abbrev pub Numbered : Type 0
Numbered = ℕ × Asker

abbrev pub number_in : Numbered → ℕ
number_in x = x.0

abbrev pub asker_in : Numbered → Asker
asker_in x = x.1

abbrev pub IsNumberOf : List Asker → Numbered → Type 0
IsNumberOf asks x = slice_get asks (number_in x) ≡ Some (asker_in x)

-- alike ones are in the order of their numbers
abbrev pub AreInOrder : Rates → List Ask → List Numbered → Type 0
AreInOrder rates asks xs = (k l : ℕ) (x y : Numbered) → k < l → slice_get xs k ≡ Some x
    → slice_get xs l ≡ Some y → AreAlike rates asks (ask_in (asker_in x)) (ask_in (asker_in y))
    → number_in x ≤ number_in y

-- A plan in whose order alike asks come as among all asks.
pub record IsOrderedPlan (rates : Rates) (tick : ℕ) (asks : List Asker) (t : LimitTree)
    (lanes : List ℕ) : Type 0 where
  pub plan : IsPlan rates tick asks t lanes
  pub leaves : List Numbered
  pub are : map asker_in leaves ≡ plan.order
  pub of : All (IsNumberOf asks) leaves
  pub in_order : AreInOrder rates (map ask_in asks) leaves
