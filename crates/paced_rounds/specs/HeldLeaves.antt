-- The names of the limits that hold back the leaves of a round.
use Rattle.std.specs.Prelude.{◌<◌, ℕ, List, length, Option, None, slice_index_or}
use Rattle.limit_tree.specs.Sharing.{LimitTree}
use Rattle.line_rates.specs.declared.ask.Ask.{Ask}
use Rattle.line_rates.specs.declared.ask.Name.{Name}
use Rattle.line_rates.specs.Rates.{Rates}
use Rattle.round_tally.specs.Held.{IsHeldBy}
use Rattle.grant_ledger.specs.declared.ledger.TheConstants.{MAX_LANES}

-- one name for each leaf, in their order
abbrev pub AreHeld : Rates → ℕ → List Ask → LimitTree → List ℕ → List (Option Name) → Type 0
AreHeld rates tick asks t g names =
    (i : ℕ) → i < length asks → i < MAX_LANES
    → IsHeldBy rates tick asks t g i (slice_index_or names i None)
