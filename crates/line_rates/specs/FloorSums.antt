-- The octets that asks are guaranteed under a name, and when they fit a tick.
use Rattle.std.specs.Prelude.{◌≡◌, ◌≤◌, ◌↔◌, ℕ, if◌then◌else◌, List, sum_by, Some}
use Rattle.limit_tree.specs.Sharing.{LimitTree, IsWithin}
use Rattle.line_rates.specs.declared.ask.Ask.{Ask}
use Rattle.line_rates.specs.declared.ask.Name.{Name}
use Rattle.line_rates.specs.Names.{bears, floor_of}
use Rattle.line_rates.specs.Rates.{Rates, rate_of}
use Rattle.line_rates.specs.Ticks.{rate_limit}
use Rattle.line_rates.specs.TickTree.{IsTickTree}

abbrev pub floor_under : Rates → Name → Ask → ℕ
floor_under rates n a = if bears rates n a then floor_of rates a else 0

-- sum of the floors of the asks that count under a name
abbrev pub floors_under : Rates → Name → List Ask → ℕ
floors_under rates n asks = sum_by (floor_under rates n) asks

-- for each name, what asks are guaranteed under it is within its limit in the tick
abbrev pub FloorsFit : Rates → ℕ → List Ask → Type 0
FloorsFit rates tick asks =
    (n : Name) (most : ℕ) → rate_limit (rate_of rates n) tick ≡ Some most
    → floors_under rates n asks ≤ most

-- The floors of the tree of a tick are within its limits exactly if they fit under each name.
abbrev pub FloorsAreWithin : Type 0
FloorsAreWithin =
    (rates : Rates) (tick : ℕ) (asks : List Ask) (t : LimitTree) → IsTickTree rates tick asks t
    → IsWithin t t.floors ↔ FloorsFit rates tick asks
