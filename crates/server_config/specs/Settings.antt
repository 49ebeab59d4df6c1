-- The settings that the table [server] makes for sessions, and its numbers.
use Rattle.std.specs.Prelude.{◌≡◌, Option, Some, None}
use Rattle.std.specs.declared.alloc.Global.{Global}
use Rattle.std.specs.Net.Addr.{ipv4_octets}
use Rattle.std.specs.declared.net.ipv4_addr.Ipv4Addr.{Ipv4Addr}
use Rattle.ftp_terms.specs.LineText.{text_of}
use Rattle.config_file.specs.declared.stated.ServerTable.{ServerTable}
use Rattle.session_table.specs.declared.settings.Settings.{Settings}
use Rattle.server_config.specs.declared.settings.ServerNumbers.{ServerNumbers}

-- the address announced to clients: the stated one, or otherwise that of the server
abbrev pub reported_address : Option Ipv4Addr → Ipv4Addr → Ipv4Addr
reported_address None own = own
reported_address (Some stated) own = stated

pub record AreSettings (server : ServerTable) (settings : Settings Global) : Type 0 where
  pub banner : text_of settings.banner ≡ server.banner.now
  pub attempts : settings.login_attempts ≡ server.max_login_attempts
  pub foreign : settings.permits_foreign_addresses ≡ server.permit_foreign_addresses
  pub privileged : settings.permits_privileged_ports ≡ server.permit_privileged_ports
  pub address : settings.address
      ≡ ipv4_octets (reported_address server.masquerade_address server.address)

pub record AreNumbers (server : ServerTable) (numbers : ServerNumbers) : Type 0 where
  pub address : numbers.address ≡ ipv4_octets server.address
  pub port : numbers.port ≡ server.port
  pub max_cons : numbers.max_cons ≡ server.max_cons
  pub max_cons_per_address : numbers.max_cons_per_address ≡ server.max_cons_per_address
  pub passive_first : numbers.passive_first ≡ server.passive_first
  pub passive_last : numbers.passive_last ≡ server.passive_last
  pub lanes : numbers.lanes ≡ server.lanes
  pub sessions : numbers.sessions ≡ server.sessions
