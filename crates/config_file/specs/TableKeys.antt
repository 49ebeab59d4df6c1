-- The keys of each table, a row each, and the values of a table: one for each row.
use Rattle.std.specs.Prelude.{ℕ, false, List, [], ◌∷◌, codes, Option, option_map}
use Rattle.std.specs.Borrow.{Bor}
use Rattle.std.specs.Net.Addr.{ipv4_octets}
use Rattle.toml.specs.Data.{no_items}
use Rattle.toml.specs.View.{items_view}
use Rattle.ftp_terms.specs.declared.entries.TheConstants.{LATEST}
use Rattle.config_file.specs.declared.kind.KeyKind.TheVariants.{Text, Line, Password, Flag, Number, Address, Rows}
use Rattle.config_file.specs.declared.stated.TheConstants.{MAX_RATE, MAX_SESSIONS}
use Rattle.config_file.specs.declared.stated.ServerTable.{ServerTable}
use Rattle.config_file.specs.declared.stated.GroupTable.{GroupTable}
use Rattle.config_file.specs.declared.stated.UserTable.{UserTable}
use Rattle.config_file.specs.declared.stated.OverrideTable.{OverrideTable}
use Rattle.config_file.specs.declared.stated.DirTable.{DirTable}
use Rattle.config_file.specs.declared.stated.FileTable.{FileTable}
use Rattle.config_file.specs.Keys.{KeyRow, needed, optional}
use Rattle.config_file.specs.Values.{Held, nothing, number, text, flag, address, items, text_if, address_if}

-- the text at a key that may be left out
abbrev pub text_of : Option (Bor (List ℕ)) → Option (List ℕ)
text_of stated = option_map (λ s. s.now) stated

abbrev pub number_row : List ℕ → ℕ → ℕ → ℕ → KeyRow
number_row key low high default = optional key (Number low high) (number default)

-- a rate, in octets per second; 0 for no limit
abbrev pub rate_row : List ℕ → KeyRow
rate_row key = number_row key 0 MAX_RATE 0

abbrev pub port_row : List ℕ → KeyRow
port_row key = needed key (Number 1 65535)

abbrev pub flag_row : List ℕ → KeyRow
flag_row key = optional key Flag (flag false)

-- tables in double brackets
abbrev pub list_row : List ℕ → KeyRow
list_row key = optional key Rows (items no_items)

-- ---- [server]

abbrev pub server_rows : List KeyRow
server_rows =
    optional (codes "address") Address (address (127 ∷ 0 ∷ 0 ∷ 1 ∷ []))
    ∷ number_row (codes "port") 1 65535 2121
    ∷ needed (codes "root") Line
    ∷ number_row (codes "capacity") 0 MAX_RATE 1048576
    ∷ optional (codes "banner") Line (text (codes "Ready"))
    ∷ number_row (codes "max_cons") 1 512 64
    ∷ number_row (codes "max_cons_per_address") 0 512 0
    ∷ number_row (codes "max_login_attempts") 1 100 3
    ∷ flag_row (codes "permit_foreign_addresses")
    ∷ flag_row (codes "permit_privileged_ports")
    ∷ optional (codes "masquerade_address") Address nothing
    ∷ port_row (codes "passive_first")
    ∷ port_row (codes "passive_last")
    ∷ number_row (codes "lanes") 1 64 16
    ∷ number_row (codes "sessions") 0 MAX_SESSIONS 0
    ∷ rate_row (codes "rate")
    ∷ rate_row (codes "down_rate")
    ∷ rate_row (codes "up_rate")
    ∷ []

abbrev pub server_values : ServerTable → List Held
server_values server =
    address (ipv4_octets server.address)
    ∷ number server.port
    ∷ text server.root.now
    ∷ number server.capacity
    ∷ text server.banner.now
    ∷ number server.max_cons
    ∷ number server.max_cons_per_address
    ∷ number server.max_login_attempts
    ∷ flag server.permit_foreign_addresses
    ∷ flag server.permit_privileged_ports
    ∷ address_if (option_map ipv4_octets server.masquerade_address)
    ∷ number server.passive_first
    ∷ number server.passive_last
    ∷ number server.lanes
    ∷ number server.sessions
    ∷ number server.rate
    ∷ number server.down_rate
    ∷ number server.up_rate
    ∷ []

-- ---- [[group]]

abbrev pub group_rows : List KeyRow
group_rows =
    needed (codes "name") Line ∷ rate_row (codes "down_rate") ∷ rate_row (codes "up_rate") ∷ []

abbrev pub group_values : GroupTable → List Held
group_values group = text group.name.now ∷ number group.down_rate ∷ number group.up_rate ∷ []

-- ---- [[user]]

abbrev pub user_rows : List KeyRow
user_rows =
    needed (codes "name") Line
    ∷ needed (codes "password") Password
    ∷ needed (codes "home") Line
    ∷ optional (codes "perms") Line (text (codes "elr"))
    ∷ rate_row (codes "down_rate")
    ∷ rate_row (codes "up_rate")
    ∷ rate_row (codes "session_down_rate")
    ∷ rate_row (codes "session_up_rate")
    ∷ rate_row (codes "session_down_floor")
    ∷ rate_row (codes "session_up_floor")
    ∷ optional (codes "msg_login") Line (text (codes "Welcome"))
    ∷ optional (codes "msg_quit") Line (text (codes "Goodbye"))
    ∷ optional (codes "group") Line nothing
    ∷ list_row (codes "override")
    ∷ []

abbrev pub user_values : UserTable → List Held
user_values user =
    text user.name.now
    ∷ text user.password.now
    ∷ text user.home.now
    ∷ text user.perms.now
    ∷ number user.down_rate
    ∷ number user.up_rate
    ∷ number user.session_down_rate
    ∷ number user.session_up_rate
    ∷ number user.session_down_floor
    ∷ number user.session_up_floor
    ∷ text user.msg_login.now
    ∷ text user.msg_quit.now
    ∷ text_if (text_of user.group)
    ∷ items (items_view user.overrides.now)
    ∷ []

-- ---- [[user.override]]

abbrev pub override_rows : List KeyRow
override_rows =
    needed (codes "path") Line ∷ needed (codes "perms") Line ∷ flag_row (codes "recursive") ∷ []

abbrev pub override_values : OverrideTable → List Held
override_values rule = text rule.path.now ∷ text rule.perms.now ∷ flag rule.recursive ∷ []

-- ---- [[dir]] and [[file]]

abbrev pub dir_rows : List KeyRow
dir_rows = needed (codes "path") Line ∷ []

abbrev pub dir_values : DirTable → List Held
dir_values dir = text dir.path.now ∷ []

abbrev pub file_rows : List KeyRow
file_rows =
    needed (codes "path") Line ∷ needed (codes "text") Text
    ∷ number_row (codes "modified") 0 LATEST 0 ∷ []

abbrev pub file_values : FileTable → List Held
file_values file = text file.path.now ∷ text file.text.now ∷ number file.modified ∷ []
