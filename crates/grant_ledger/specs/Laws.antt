-- Laws of every entry.
use Rattle.std.specs.Prelude.{◌≡◌, ◌+◌, ◌<◌, ℕ, List, length, drop, slice_index, slice_index_or, slice_set, Option, Some, None}
use Rattle.grant_ledger.specs.Books.{by_lane, NamesNot, AreLanes}
use Rattle.grant_ledger.specs.declared.ledger.TheConstants.{MAX_LANES}

-- amount i is at lane i of the list, and there is none at a lane not in the list
pub record IsByLane (lanes grants : List ℕ) (undrawn : List (Option ℕ)) : Type 0 where
  pub each_lane : length undrawn ≡ MAX_LANES
  pub named : (i : ℕ) → i < length lanes
      → slice_index_or undrawn (slice_index lanes i) None ≡ Some (slice_index grants i)
  pub others : (lane : ℕ) → lane < MAX_LANES → NamesNot lane lanes
      → slice_index_or undrawn lane None ≡ None

abbrev pub GivesEachLaneItsAmount : Type 0
GivesEachLaneItsAmount =
    (lanes grants : List ℕ) → AreLanes lanes → length lanes ≡ length grants
    → IsByLane lanes grants (by_lane lanes grants)

-- after its first i amounts were drawn, amount i is there; once it is drawn too, those after it are
-- left
pub record IsDrawnAt (lanes grants : List ℕ) (i : ℕ) : Type 0 where
  pub lane : slice_index lanes i < MAX_LANES
  pub there : slice_index_or (by_lane (drop i lanes) (drop i grants)) (slice_index lanes i) None
      ≡ Some (slice_index grants i)
  pub left : slice_set (by_lane (drop i lanes) (drop i grants)) (slice_index lanes i) None
      ≡ by_lane (drop (i + 1) lanes) (drop (i + 1) grants)

abbrev pub IsDrawnInTurn : Type 0
IsDrawnInTurn =
    (lanes grants : List ℕ) (i : ℕ) → AreLanes lanes → length lanes ≡ length grants
    → i < length lanes → IsDrawnAt lanes grants i
