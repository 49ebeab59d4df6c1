-- The users of asks, and their branches in the tree of a tick.
use Rattle.std.specs.Prelude.{◌≡◌, ℕ, ◌+◌, ◌<◌, ◌≤◌, Bool, false, List, length, slice_get, slice_index, Option, Some, None, IsTrue}
use Rattle.limit_tree.specs.Outline.{leaf_range}
use Rattle.limit_tree.specs.Sharing.{LimitTree}
use Rattle.limit_tree.specs.declared.place.Place.{Place}
use Rattle.line_rates.specs.declared.ask.Ask.{Ask}
use Rattle.line_rates.specs.Rates.{Rates}
use Rattle.line_rates.specs.TickTree.{IsTickTree}
use Rattle.fair_terms.specs.Wants.{is_same_user}

-- the tree of a tick for these asks, one for each leaf
abbrev pub IsTreeOf : List Ask → LimitTree → Type 0
IsTreeOf asks t = (rates : Rates) × (tick : ℕ) × IsTickTree rates tick asks t

abbrev pub is_of : Ask → Option Ask → Bool
is_of a None = false
is_of a (Some b) = is_same_user a b

-- the ask of leaf i is of the user of ask a, in its way
abbrev pub is_of_user : List Ask → Ask → ℕ → Bool
is_of_user asks a i = is_of a (slice_get asks i)

-- The asks of one user side by side, from leaf `first` on: `count` of them, and the next is of
-- another user, if there is one.
pub record IsRunOf (asks : List Ask) (first count : ℕ) : Type 0 where
  pub within : first + count ≤ length asks
  pub own : (a : Ask) (i : ℕ) → slice_get asks first ≡ Some a → first ≤ i → i < first + count
      → IsTrue (is_of_user asks a i)
  pub ends : (a : Ask) → slice_get asks first ≡ Some a → is_of_user asks a (first + count) ≡ false

-- The leaves of node `k` are those of the user of ask a.
pub record IsNodeOf (outline : List Place) (asks : List Ask) (a : Ask) (k : ℕ) : Type 0 where
  pub place : Place
  pub found : slice_get outline k ≡ Some place
  pub holds : (i : ℕ) → leaf_range place.first place.leaves i ≡ is_of_user asks a i

-- the leaves of each of these nodes are those of a user
abbrev pub AreNodesOf : List Place → List Ask → List ℕ → Type 0
AreNodesOf outline asks nodes =
    (u : ℕ) → u < length nodes → (a : Ask) × IsNodeOf outline asks a (slice_index nodes u)
