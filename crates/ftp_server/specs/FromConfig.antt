-- The server of a configuration.
use Rattle.std.specs.Prelude.{◌≡◌, ℕ, List, false, map}
use Rattle.line_rates.specs.Stated.{by_number, group_number, user_number}
use Rattle.line_rates.specs.declared.row.UserRate.{UserRate}
use Rattle.server_config.specs.declared.config.Config.{Config}
use Rattle.ftp_server.specs.Defaults.{IsDefaultPatience}
use Rattle.ftp_server.specs.declared.rates.SetRates.{SetRates}
use Rattle.ftp_server.specs.declared.server.FtpServer.{FtpServer}

-- the rates of a row, set for its user
abbrev pub set_of : UserRate → SetRates
set_of row = record {
  number = row.user;
  rates = record {
    down = row.down;
    up = row.up;
    session_down = row.session_down;
    session_up = row.session_up;
    session_down_floor = row.session_down_floor;
    session_up_floor = row.session_up_floor;
  };
}

-- its users, numbers, settings and rates are those of the configuration
pub record IsOfConfig (config : Config) (server : FtpServer) : Type 0 where
  pub users : server.users ≡ config.users
  pub numbers : server.numbers ≡ config.numbers
  pub settings : server.settings ≡ config.settings
  pub patience : IsDefaultPatience server.patience
  pub user_sessions : server.user_sessions ≡ 0
  pub rate : server.rate ≡ config.limits.server
  pub down_rate : server.down_rate ≡ config.limits.down
  pub up_rate : server.up_rate ≡ config.limits.up
  pub groups : by_number group_number server.groups.items ≡ config.limits.groups
  pub rows : List UserRate
  pub rows_are : by_number user_number rows ≡ config.limits.users
  pub user_rates : server.user_rates.items ≡ map set_of rows
  pub share_by : server.share_by ≡ config.limits.share_by
  pub syncs : server.syncs ≡ false
