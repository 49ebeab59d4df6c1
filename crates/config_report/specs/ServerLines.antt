-- The lines of a report on the server.
use Rattle.std.specs.Prelude.{ℕ, if◌then◌else◌, nat_eq, List, [], ◌∷◌, ◌++◌, bytes_eq, codes, length}
use Rattle.std.specs.Fmt.{decimal}
use Rattle.std.specs.Net.Addr.{ipv4_octets}
use Rattle.std.specs.Net.Text.{ipv4_text}
use Rattle.config_file.specs.declared.stated.ServerTable.{ServerTable}
use Rattle.config_file.specs.declared.tables.Tables.{Tables}
use Rattle.server_config.specs.Settings.{reported_address}
use Rattle.config_report.specs.Counted.{counted}
use Rattle.config_report.specs.Warnings.{is_unreported}

-- ---- where it is reached

abbrev pub address_text : ServerTable → List ℕ
address_text server = ipv4_text (ipv4_octets server.address)

abbrev pub port_text : ServerTable → List ℕ
port_text server = codes ":" ++ decimal server.port ++ 10 ∷ []

abbrev pub listens_line : ServerTable → List ℕ
listens_line server = codes "listens on " ++ address_text server ++ port_text server

abbrev pub greets_line : ServerTable → List ℕ
greets_line server = codes "greets with " ++ server.banner.now ++ 10 ∷ []

-- the address announced for passive connections; no particular one if that is 0.0.0.0
abbrev pub reported_text : ServerTable → List ℕ
reported_text server =
    if is_unreported server
    then codes "the address that they reached"
    else ipv4_text (ipv4_octets (reported_address server.masquerade_address server.address))

abbrev pub ports_text : ServerTable → List ℕ
ports_text server =
    codes ", ports " ++ decimal server.passive_first ++ codes " to " ++ decimal server.passive_last
    ++ 10 ∷ []

abbrev pub reports_line : ServerTable → List ℕ
reports_line server = codes "tells clients " ++ reported_text server ++ ports_text server

abbrev pub network_lines : ServerTable → List ℕ
network_lines server = listens_line server ++ greets_line server ++ reports_line server

-- ---- its bounds

abbrev pub takes_line : ServerTable → List ℕ
takes_line server =
    codes "takes " ++ counted server.max_cons (codes "connection") (codes "connections")
    ++ codes ", " ++ counted server.lanes (codes "transfer") (codes "transfers")
    ++ codes " at once" ++ 10 ∷ []

abbrev pub from_any_line : ℕ → List ℕ
from_any_line most =
    codes "takes " ++ (counted most (codes "connection") (codes "connections")
    ++ (codes " from one address" ++ 10 ∷ []))

-- connections from one address; 0 is no limit
abbrev pub from_one_line : ServerTable → List ℕ
from_one_line server =
    if nat_eq server.max_cons_per_address 0
    then codes "takes any number of connections from one address" ++ 10 ∷ []
    else from_any_line server.max_cons_per_address

abbrev pub attempts_line : ServerTable → List ℕ
attempts_line server =
    codes "ends a session after "
    ++ counted server.max_login_attempts (codes "wrong password") (codes "wrong passwords")
    ++ 10 ∷ []

abbrev pub bound_lines : ServerTable → List ℕ
bound_lines server = takes_line server ++ from_one_line server ++ attempts_line server

-- ---- its offer

-- the addresses to which data connections are permitted
abbrev pub whom_text : ServerTable → List ℕ
whom_text server =
    if server.permit_foreign_addresses
    then codes "any address"
    else codes "the client's address"

-- the lowest port to which they are permitted
abbrev pub lowest_port : ServerTable → ℕ
lowest_port server = if server.permit_privileged_ports then 1 else 1024

abbrev pub connects_line : ServerTable → List ℕ
connects_line server =
    codes "connects to " ++ whom_text server ++ codes ", ports " ++ decimal (lowest_port server)
    ++ codes " to 65535" ++ 10 ∷ []

-- the sessions after which the server ends; 0 for never
abbrev pub sessions_line : ServerTable → List ℕ
sessions_line server =
    if nat_eq server.sessions 0
    then codes "serves any number of sessions" ++ 10 ∷ []
    else codes "ends after " ++ counted server.sessions (codes "session") (codes "sessions")
    ++ 10 ∷ []

-- the capacity of a store in memory, and the numbers of its first directories and files
unfoldable pub memory_text : ℕ → ℕ → ℕ → List ℕ
memory_text most dirs files =
    codes ", at most " ++ counted most (codes "octet") (codes "octets") ++ codes ", at first "
    ++ counted dirs (codes "directory") (codes "directories")
    ++ codes " and " ++ counted files (codes "file") (codes "files")

-- the same of a store in memory; nothing of a folder
abbrev pub contents_text : Tables → List ℕ
contents_text tables =
    if bytes_eq tables.server.root.now (codes "memory")
    then memory_text tables.server.capacity (length tables.dirs.items) (length tables.files.items)
    else []

abbrev pub root_text : ServerTable → List ℕ
root_text server = codes "serves " ++ server.root.now

abbrev pub serves_line : Tables → List ℕ
serves_line tables = root_text tables.server ++ contents_text tables ++ 10 ∷ []

abbrev pub offer_lines : Tables → List ℕ
offer_lines tables =
    connects_line tables.server ++ sessions_line tables.server ++ serves_line tables

-- ---- all

abbrev pub server_lines : Tables → List ℕ
server_lines tables =
    network_lines tables.server ++ bound_lines tables.server ++ offer_lines tables
