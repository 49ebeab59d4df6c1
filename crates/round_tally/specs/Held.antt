-- The name of the limit that holds back a leaf.
use Rattle.std.specs.Prelude.{◌≤◌, ℕ, List, slice_index, Option, Some, None}
use Rattle.limit_tree.specs.Sharing.{Branch, LimitTree, IsUnmet}
use Rattle.line_rates.specs.declared.ask.Ask.{Ask}
use Rattle.line_rates.specs.declared.ask.Name.{Name}
use Rattle.line_rates.specs.Rates.{Rates}
use Rattle.line_rates.specs.TickTree.{IsNamed}
use Rattle.fair_terms.specs.Fair.{IsFairNeck}

-- The branch of the name is a bottleneck of the leaf, or of its user if the line is shared among
-- users; none if the leaf has all that it wants.
abbrev pub IsHeldBy : Rates → ℕ → List Ask → LimitTree → List ℕ → ℕ → Option Name → Type 0
IsHeldBy rates tick asks t g i None = slice_index t.wants i ≤ slice_index g i
IsHeldBy rates tick asks t g i (Some n) =
    IsUnmet t g i
    × ((b : Branch) × IsNamed rates tick asks n b × IsFairNeck rates.share_by asks t b g i)
