-- Ten times the rates of a line: what a tick of a tenth of a second allows by them, a second allows
-- by the rates.
use Rattle.std.specs.Prelude.{◌≡◌, ℕ, ◌*◌, nat_lt, min, if◌then◌else◌}
use Rattle.std.specs.FinMap as finite
use Rattle.line_rates.specs.declared.ask.Name.{Name}
use Rattle.line_rates.specs.declared.ask.Way.{Way}
use Rattle.line_rates.specs.declared.row.GroupRate.{GroupRate}
use Rattle.line_rates.specs.declared.row.UserRate.{UserRate}
use Rattle.line_rates.specs.Rates.{Rates, floor_rate, group_of, rate_of}
use Rattle.rate_plan.specs.declared.tens.TheConstants.{MAX_PLANNED}

-- a rate above `MAX_PLANNED` becomes none
abbrev pub ten_rate : ℕ → ℕ
ten_rate rate = if nat_lt MAX_PLANNED rate then 0 else 10 * rate

abbrev pub ten_floor : ℕ → ℕ
ten_floor floor = 10 * min floor MAX_PLANNED

abbrev pub ten_group : GroupRate → GroupRate
ten_group row = record { group = row.group; down = ten_rate row.down; up = ten_rate row.up }

abbrev pub ten_user : UserRate → UserRate
ten_user row = record {
  user = row.user;
  group = row.group;
  down = ten_rate row.down;
  up = ten_rate row.up;
  session_down = ten_rate row.session_down;
  session_up = ten_rate row.session_up;
  session_down_floor = ten_floor row.session_down_floor;
  session_up_floor = ten_floor row.session_up_floor;
}

pub record AreTens (rates tens : Rates) : Type 0 where
  pub share_by : tens.share_by ≡ rates.share_by
  pub rates_of : (n : Name) → rate_of tens n ≡ ten_rate (rate_of rates n)
  pub floors_of : (user : ℕ) (way : Way) → floor_rate (finite.get tens.users user) way
      ≡ ten_floor (floor_rate (finite.get rates.users user) way)
  pub groups_of : (user : ℕ) → group_of tens user ≡ group_of rates user
