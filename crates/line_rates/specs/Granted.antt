-- The octets that asks are granted under a name.
use Rattle.std.specs.Prelude.{◌≡◌, ◌≤◌, ℕ, if◌then◌else◌, List, map, sum_by, Some}
use Rattle.limit_tree.specs.Sharing.{LimitTree, IsWithin}
use Rattle.line_rates.specs.declared.ask.Ask.{Ask}
use Rattle.line_rates.specs.declared.ask.Name.{Name}
use Rattle.line_rates.specs.Names.{bears}
use Rattle.line_rates.specs.Rates.{Rates, rate_of}
use Rattle.line_rates.specs.Ticks.{rate_limit}
use Rattle.line_rates.specs.TickTree.{IsTickTree}

-- an ask with its grant
pub record Granted : Type 0 where
  pub ask : Ask
  pub octets : ℕ

abbrev pub granted_ask : Granted → Ask
granted_ask g = g.ask

abbrev pub granted_octets : Granted → ℕ
granted_octets g = g.octets

-- sum of the grants to asks that count under a name
abbrev pub granted_under : Rates → Name → List Granted → ℕ
granted_under rates n grants = sum_by (λ g. if bears rates n g.ask then g.octets else 0) grants

-- Grants within the tree of a tick keep each name's limit at that tick.
abbrev pub GrantsKeepNames : Type 0
GrantsKeepNames =
    (rates : Rates) (tick : ℕ) (t : LimitTree) (grants : List Granted)
    → IsTickTree rates tick (map granted_ask grants) t → IsWithin t (map granted_octets grants)
    → (n : Name) (most : ℕ) → rate_limit (rate_of rates n) tick ≡ Some most
    → granted_under rates n grants ≤ most
