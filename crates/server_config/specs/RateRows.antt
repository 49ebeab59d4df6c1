-- The rows of rates that the tables of a configuration state.
use Rattle.std.specs.Prelude.{◌≡◌, ℕ, ◌+◌, List, [], ◌∷◌}
use Rattle.line_rates.specs.Rates.{Rates}
use Rattle.line_rates.specs.Stated.{stated}
use Rattle.line_rates.specs.declared.row.GroupRate.{GroupRate}
use Rattle.line_rates.specs.declared.row.UserRate.{UserRate}
use Rattle.config_file.specs.declared.stated.ServerTable.{ServerTable}
use Rattle.config_file.specs.declared.stated.GroupTable.{GroupTable}
use Rattle.config_file.specs.declared.stated.UserTable.{UserTable}
use Rattle.server_config.specs.Groups.{group_in}
use Rattle.server_config.specs.declared.rate_rows.RateRows.{RateRows}

-- a row for each table, numbered in the order of the file from a number on
abbrev pub numbered : {X Y : Type 0} → (ℕ → X → Y) → ℕ → List X → List Y
numbered row k [] = []
numbered row k (x ∷ xs) = row k x ∷ numbered row (k + 1) xs

abbrev pub group_row : ℕ → GroupTable → GroupRate
group_row k group = record { group = k; down = group.down_rate; up = group.up_rate }

abbrev pub user_row : List GroupTable → ℕ → UserTable → UserRate
user_row groups k user = record {
  user = k;
  group = group_in groups user.group;
  down = user.down_rate;
  up = user.up_rate;
  session_down = user.session_down_rate;
  session_up = user.session_up_rate;
  session_down_floor = user.session_down_floor;
  session_up_floor = user.session_up_floor;
}

abbrev pub group_rows : List GroupTable → List GroupRate
group_rows groups = numbered group_row 0 groups

abbrev pub user_rows : List GroupTable → List UserTable → List UserRate
user_rows groups users = numbered (user_row groups) 0 users

-- the rates of the line, of its groups and of its users
abbrev pub rates_of : ServerTable → List GroupTable → List UserTable → Rates
rates_of server groups users =
    stated server.rate server.down_rate server.up_rate (group_rows groups) (user_rows groups users)

pub record AreRowsOf (groups : List GroupTable) (users : List UserTable)
    (rows : RateRows) : Type 0 where
  pub groups_are : rows.groups.items ≡ group_rows groups
  pub users_are : rows.users.items ≡ user_rows groups users
