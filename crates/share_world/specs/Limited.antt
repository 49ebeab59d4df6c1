-- A world with the rates that its decisions keep.
use Rattle.std.specs.Prelude.{◌≤◌, ℕ, List, length, slice_index_or}
use Rattle.grant_ledger.specs.declared.ledger.TheConstants.{MAX_LANES}
use Rattle.line_rates.specs.Rates.{Rates}
use Rattle.world_terms.specs.Lanes.{Lane, World, new_lane}
use Rattle.share_world.specs.Kept.{IsBooked}

pub record Limited : Type 0 where
  pub rates : Rates
  pub world : World

-- the invariant of an executable world: its book, and at most `MAX_LANES` lanes
pub record IsKept (lanes : List Lane) (issued : ℕ) : Type 0 where
  pub booked : IsBooked lanes issued
  pub few : length lanes ≤ MAX_LANES

-- the lane with a number
abbrev pub lane_at : World → ℕ → Lane
lane_at w i = slice_index_or w.lanes i new_lane
