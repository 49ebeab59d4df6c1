-- The bottleneck of a leaf of the tree of a second.
use Rattle.std.specs.Prelude.{◌≤◌, ℕ, List, slice_index, Option, Some, None}
use Rattle.limit_tree.specs.Sharing.{LimitTree, IsUnmet}
use Rattle.fair_terms.specs.Fair.{IsFairNeck}
use Rattle.line_rates.specs.declared.ask.Ask.{Ask}
use Rattle.line_rates.specs.declared.ask.Name.{Name}
use Rattle.line_rates.specs.Rates.{Rates}
use Rattle.rate_plan.specs.Second.{name_branch}

-- The name whose branch is a bottleneck of the leaf, or of its user if the line is shared among
-- users; none if the leaf has all that it wants.
abbrev pub IsHeld : Rates → List Ask → LimitTree → List ℕ → ℕ → Option Name → Type 0
IsHeld rates asks t g i None = slice_index t.wants i ≤ slice_index g i
IsHeld rates asks t g i (Some n) =
    IsUnmet t g i × IsFairNeck rates.share_by asks t (name_branch rates asks n) g i
