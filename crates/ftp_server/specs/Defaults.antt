-- A server of one's own before anything is set.
use Rattle.std.specs.Prelude.{◌≡◌, ℕ, List, [], codes, false}
use Rattle.std.specs.FinMap as finite
use Rattle.ftp_terms.specs.LineText.{text_of}
use Rattle.server_config.specs.declared.settings.ServerNumbers.{ServerNumbers}
use Rattle.session_table.specs.declared.settings.Settings.{Settings}
use Rattle.std.specs.declared.alloc.Global.{Global}
use Rattle.line_rates.specs.declared.share_by.ShareBy.TheVariants as share
use Rattle.client_patience.specs.declared.patience.Patience.{Patience}
use Rattle.ftp_server.specs.declared.server.FtpServer.{FtpServer}

-- the numbers of a configuration that states the address and the port, with passive ports
pub record AreDefaultNumbers (own : List ℕ) (control : ℕ) (numbers : ServerNumbers) : Type 0 where
  pub address : numbers.address ≡ own
  pub port : numbers.port ≡ control
  pub max_cons : numbers.max_cons ≡ 64
  pub max_cons_per_address : numbers.max_cons_per_address ≡ 0
  pub passive_first : numbers.passive_first ≡ 30000
  pub passive_last : numbers.passive_last ≡ 30063
  pub lanes : numbers.lanes ≡ 16
  pub sessions : numbers.sessions ≡ 0

-- the settings of a configuration that states the address
pub record AreDefaultSettings (own : List ℕ) (settings : Settings Global) : Type 0 where
  pub banner : text_of settings.banner ≡ codes "Ready"
  pub attempts : settings.login_attempts ≡ 3
  pub foreign : settings.permits_foreign_addresses ≡ false
  pub privileged : settings.permits_privileged_ports ≡ false
  pub address : settings.address ≡ own

-- the time limits of a command line that states none, in seconds
pub record IsDefaultPatience (patience : Patience) : Type 0 where
  pub login : patience.login_timeout ≡ 60
  pub idle : patience.idle_timeout ≡ 0
  pub delay : patience.login_delay ≡ 1
  pub drain : patience.drain_timeout ≡ 0

-- nobody may log in, and nothing is limited
pub record AreDefaults (address : List ℕ) (port : ℕ) (server : FtpServer) : Type 0 where
  pub users : server.users ≡ record { users = finite.empty; next = 0 }
  pub rate : server.rate ≡ 0
  pub down_rate : server.down_rate ≡ 0
  pub up_rate : server.up_rate ≡ 0
  pub numbers : AreDefaultNumbers address port server.numbers
  pub settings : AreDefaultSettings address server.settings
  pub patience : IsDefaultPatience server.patience
  pub user_sessions : server.user_sessions ≡ 0
  pub groups : server.groups.items ≡ []
  pub user_rates : server.user_rates.items ≡ []
  pub share_by : server.share_by ≡ share.Sessions
  pub syncs : server.syncs ≡ false
