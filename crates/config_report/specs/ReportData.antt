-- The report on a configuration as JSON: a value, whose members docs/configuration.md describes.
use Rattle.std.specs.Prelude.{◌≡◌, ◌++◌, ℕ, List, [], ◌∷◌, Option, Some, None, codes, if◌then◌else◌, length, map, nat_eq}
use Rattle.std.specs.Borrow.{Bor}
use Rattle.std.specs.Net.Addr.{ipv4_octets}
use Rattle.std.specs.declared.net.ipv4_addr.Ipv4Addr.{Ipv4Addr}
use Rattle.std.specs.Net.Text.{ipv4_text}
use Rattle.serde_json.specs.Data.{Data, array, boolean, member, no_members, null, number, object, string, unsigned}
use Rattle.serde_json.specs.Read.{read}
use Rattle.serde_json.specs.View.{items_of}
use Rattle.config_file.specs.declared.stated.GroupTable.{GroupTable}
use Rattle.config_file.specs.declared.stated.OverrideTable.{OverrideTable}
use Rattle.config_file.specs.declared.stated.ServerTable.{ServerTable}
use Rattle.config_file.specs.declared.stated.UserTable.{UserTable}
use Rattle.config_file.specs.declared.tables.Tables.{Tables}
use Rattle.server_config.specs.Settings.{reported_address}
use Rattle.config_report.specs.Lines.{warning_text}
use Rattle.config_report.specs.UserLines.{ordered}
use Rattle.config_report.specs.Warnings.{is_unreported}
use Rattle.config_report.specs.declared.seen.SeenUser.{SeenUser}
use Rattle.config_report.specs.declared.warning.Warning.{Warning}

-- ---- values

abbrev pub count_data : ℕ → Data
count_data n = number (unsigned n)

-- a rate; 0 is none
abbrev pub rate_data : ℕ → Data
rate_data rate = if nat_eq rate 0 then null else count_data rate

abbrev pub address_data : Ipv4Addr → Data
address_data address = string (ipv4_text (ipv4_octets address))

-- the address announced to clients; none if it is the one that they reached
abbrev pub announced_data : ServerTable → Data
announced_data server =
    if is_unreported server
    then null
    else address_data (reported_address server.masquerade_address server.address)

abbrev pub masquerade_data : Option Ipv4Addr → Data
masquerade_data None = null
masquerade_data (Some address) = address_data address

-- the name of a group, if there is one
abbrev pub name_data : Option (Bor (List ℕ)) → Data
name_data None = null
name_data (Some name) = string name.now

-- ---- of the server

abbrev pub connections_data : ServerTable → Data
connections_data server =
    object
    (member (codes "announced_address") (announced_data server)
    (member (codes "masquerade_address") (masquerade_data server.masquerade_address)
    (member (codes "passive_first") (count_data server.passive_first)
    (member (codes "passive_last") (count_data server.passive_last)
    (member (codes "permit_foreign_addresses") (boolean server.permit_foreign_addresses)
    (member (codes "permit_privileged_ports") (boolean server.permit_privileged_ports)
    no_members))))))

abbrev pub limits_data : ServerTable → Data
limits_data server =
    object
    (member (codes "lanes") (count_data server.lanes)
    (member (codes "max_cons") (count_data server.max_cons)
    (member (codes "max_cons_per_address") (count_data server.max_cons_per_address)
    (member (codes "max_login_attempts") (count_data server.max_login_attempts) no_members))))

abbrev pub rates_data : ServerTable → Data
rates_data server =
    object
    (member (codes "down_rate") (rate_data server.down_rate)
    (member (codes "rate") (rate_data server.rate)
    (member (codes "up_rate") (rate_data server.up_rate) no_members)))

abbrev pub store_data : Tables → Data
store_data tables =
    object
    (member (codes "capacity") (count_data tables.server.capacity)
    (member (codes "dirs") (count_data (length tables.dirs.items))
    (member (codes "files") (count_data (length tables.files.items))
    (member (codes "root") (string tables.server.root.now) no_members))))

-- the server, given its address, its data connections, its limits, its rates and its store
abbrev pub members_data : ServerTable → Data → Data → Data → Data → Data → Data
members_data server address connections limits rates store =
    object
    (member (codes "address") address
    (member (codes "banner") (string server.banner.now)
    (member (codes "data_connections") connections
    (member (codes "limits") limits
    (member (codes "port") (count_data server.port)
    (member (codes "rates") rates
    (member (codes "sessions") (count_data server.sessions)
    (member (codes "store") store no_members))))))))

abbrev pub server_data : Tables → Data
server_data tables =
    members_data tables.server (address_data tables.server.address)
    (connections_data tables.server) (limits_data tables.server) (rates_data tables.server)
    (store_data tables)

abbrev pub group_data : GroupTable → Data
group_data group =
    object
    (member (codes "down_rate") (rate_data group.down_rate)
    (member (codes "name") (string group.name.now)
    (member (codes "up_rate") (rate_data group.up_rate) no_members)))

-- ---- of a user

abbrev pub override_data : OverrideTable → Data
override_data rule =
    object
    (member (codes "path") (string rule.path.now)
    (member (codes "perms") (string (ordered rule.perms.now))
    (member (codes "recursive") (boolean rule.recursive) no_members)))

abbrev pub user_rates_data : UserTable → Data
user_rates_data user =
    object
    (member (codes "down_rate") (rate_data user.down_rate)
    (member (codes "session_down_floor") (rate_data user.session_down_floor)
    (member (codes "session_down_rate") (rate_data user.session_down_rate)
    (member (codes "session_up_floor") (rate_data user.session_up_floor)
    (member (codes "session_up_rate") (rate_data user.session_up_rate)
    (member (codes "up_rate") (rate_data user.up_rate) no_members))))))

-- a user without the password, given its group, its overrides and its rates
abbrev pub user_data : UserTable → Data → Data → Data → Data
user_data user group overrides rates =
    object
    (member (codes "group") group
    (member (codes "home") (string user.home.now)
    (member (codes "msg_login") (string user.msg_login.now)
    (member (codes "msg_quit") (string user.msg_quit.now)
    (member (codes "name") (string user.name.now)
    (member (codes "overrides") overrides
    (member (codes "perms") (string (ordered user.perms.now))
    (member (codes "rates") rates no_members))))))))

unfoldable pub row_data : SeenUser → Data
row_data row =
    user_data row.user.now (name_data row.user.now.group)
    (array (items_of (map override_data row.overrides.now))) (user_rates_data row.user.now)

-- ---- all

abbrev pub warning_data : Warning → Data
warning_data warning = string (warning_text warning)

-- the report, given its server, groups, users and warnings; besides its unit, the version of the
-- configuration, and the version of this form
abbrev pub whole_data : ℕ → Data → Data → Data → Data → Data
whole_data version server groups users reported =
    object
    (member (codes "config_version") (count_data version)
    (member (codes "groups") groups
    (member (codes "server") server
    (member (codes "unit") (string (codes "octets a second"))
    (member (codes "users") users
    (member (codes "version") (count_data 1)
    (member (codes "warnings") reported no_members)))))))

abbrev pub report_data : Tables → List GroupTable → List SeenUser → List Warning → Data
report_data tables groups rows warnings =
    whole_data tables.version (server_data tables) (array (items_of (map group_data groups)))
    (array (items_of (map row_data rows))) (array (items_of (map warning_data warnings)))

-- the text is JSON of that value, and a line feed
abbrev pub IsJsonOf : Data → List ℕ → Type 0
IsJsonOf value text = (json : List ℕ) × (text ≡ json ++ 10 ∷ []) × (read json ≡ Some value)
