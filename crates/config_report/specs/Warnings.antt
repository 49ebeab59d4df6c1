-- Settings that are accepted and have no use, each with its test.
use Rattle.std.specs.Prelude.{ℕ, ◌+◌, ◌*◌, Bool, true, false, not, ◌||◌, ◌&&◌, cond, if◌then◌else◌, nat_eq, nat_le, nat_lt, List, [], ◌∷◌, ◌++◌, bytes_eq, codes, length, map, Option, Some, None, bit_and}
use Rattle.std.specs.Borrow.{Bor}
use Rattle.std.specs.Char.{to_ascii_lowercase}
use Rattle.std.specs.List.{flat_map, list_any}
use Rattle.std.specs.Net.Addr.{ipv4_bits}
use Rattle.config_report.specs.Floors.{second_shortage, shortage_of}
use Rattle.config_report.specs.Together.{all_warnings, is_among_passive, name_warnings}
use Rattle.config_file.specs.declared.stated.ServerTable.{ServerTable}
use Rattle.config_file.specs.declared.stated.GroupTable.{GroupTable}
use Rattle.config_file.specs.declared.stated.UserTable.{UserTable}
use Rattle.line_rates.specs.declared.share_by.ShareBy.{ShareBy}
use Rattle.line_rates.specs.declared.share_by.ShareBy.TheVariants.{Sessions, Users}
use Rattle.server_config.specs.Settings.{reported_address}
use Rattle.config_report.specs.declared.floors.Shortage.{Shortage}
use Rattle.config_report.specs.declared.looks.Sight.{Sight}
use Rattle.config_report.specs.declared.looks.Sight.TheVariants as sight
use Rattle.config_report.specs.declared.seen.SeenUser.{SeenUser}
use Rattle.config_report.specs.declared.warning.Warning.{Warning}
use Rattle.config_report.specs.declared.warning.Warning.TheVariants.{NearlyMemory, RelativeRoot, AbsentRoot, NoFolderRoot, ClosedRoot, PublicPasswords, NoAddress, OwnPorts, PortAmongPassive, FewPorts, NoPassword, Unbrowsed, NoFirstSession, NoSecondSession, NoHome, OneUser}
use Rattle.config_report.specs.declared.warnings.TheConstants.{OWN_FIRST, OWN_LAST}

-- ---- of the server

-- the address announced for passive connections is 0.0.0.0
abbrev pub is_unreported : ServerTable → Bool
is_unreported server =
    nat_eq (ipv4_bits (reported_address server.masquerade_address server.address)) 0

-- a passive port is among those that the machine takes for its own connections
abbrev pub is_among_own : ServerTable → Bool
is_among_own server = nat_le server.passive_first OWN_LAST && nat_le OWN_FIRST server.passive_last

-- there are fewer passive ports, from the first to the last, than connections
abbrev pub has_few_ports : ServerTable → Bool
has_few_ports server = nat_lt (server.passive_last + 1) (server.passive_first + server.max_cons)

-- the root is the word `memory` in other letters: a folder
abbrev pub is_nearly_memory : List ℕ → Bool
is_nearly_memory root =
    bytes_eq (map to_ascii_lowercase root) (codes "memory") && not (bytes_eq root (codes "memory"))

abbrev pub begins_with_slash : List ℕ → Bool
begins_with_slash [] = false
begins_with_slash (c ∷ cs) = nat_eq c 47

-- the root is the path of a folder that depends on where the program is started
abbrev pub is_relative : List ℕ → Bool
is_relative root =
    not (bytes_eq (map to_ascii_lowercase root) (codes "memory"))
    && not (begins_with_slash root)

abbrev pub root_warnings : Bor (List ℕ) → List Warning
root_warnings root =
    (if is_nearly_memory root.now then NearlyMemory root ∷ [] else [])
    ++ (if is_relative root.now then RelativeRoot root ∷ [] else [])

abbrev pub own_port_warnings : ServerTable → List Warning
own_port_warnings server =
    (if is_unreported server then NoAddress ∷ [] else [])
    ++ (if is_among_own server then OwnPorts server.passive_first server.passive_last ∷ [] else [])

abbrev pub passive_port_warnings : ServerTable → List Warning
passive_port_warnings server =
    (if is_among_passive server
    then PortAmongPassive server.port server.passive_first server.passive_last ∷ [] else [])
    ++ (if has_few_ports server
    then FewPorts server.passive_first server.passive_last server.max_cons ∷ [] else [])

abbrev pub port_warnings : ServerTable → List Warning
port_warnings server = own_port_warnings server ++ passive_port_warnings server

-- ---- of a user's password and letters

-- the password is empty; that of `anonymous` is of no account
abbrev pub is_open : UserTable → Bool
is_open user =
    nat_eq (length user.password.now) 0 && not (bytes_eq user.name.now (codes "anonymous"))

-- the letters permit to change directories and to list them
abbrev pub may_browse : List ℕ → Bool
may_browse letters = list_any (nat_eq 101) letters && list_any (nat_eq 108) letters

-- ---- of the root

-- the root is no folder whose entries can be listed, so that nothing is known of homes in it
abbrev pub is_unlisted : Option Sight → Bool
is_unlisted None = false
is_unlisted (Some sight.Listed) = false
is_unlisted (Some sight.Absent) = true
is_unlisted (Some sight.NoFolder) = true
is_unlisted (Some sight.Closed) = true

abbrev pub sight_warnings : Bor (List ℕ) → Option Sight → List Warning
sight_warnings root None = []
sight_warnings root (Some sight.Listed) = []
sight_warnings root (Some sight.Absent) = AbsentRoot root ∷ []
sight_warnings root (Some sight.NoFolder) = NoFolderRoot root ∷ []
sight_warnings root (Some sight.Closed) = ClosedRoot root ∷ []

-- ---- of the configuration's file

-- everybody may read a file of these permission bits
abbrev pub is_public : Option ℕ → Bool
is_public None = false
is_public (Some mode) = not (nat_eq (bit_and mode 4) 0)

-- the user's password is not empty
abbrev pub has_word : SeenUser → Bool
has_word row = not (nat_eq (length row.user.now.password.now) 0)

abbrev pub file_warnings : Option ℕ → List SeenUser → List Warning
file_warnings mode rows =
    if is_public mode && list_any has_word rows then PublicPasswords ∷ [] else []

-- ---- of a user's home

-- the home is no directory of the store in memory, or of a folder that can be listed
abbrev pub lacks_home : Option Sight → SeenUser → Bool
lacks_home root row = not row.has_home && not (is_unlisted root)

abbrev pub home_warnings : Option Sight → SeenUser → List Warning
home_warnings root row =
    if lacks_home root row then NoHome row.user.now.name row.user.now.home ∷ [] else []

-- ---- of the way in which the line is to be shared

-- among users, all sessions of `anonymous` are one
abbrev pub shares_as_one : ShareBy → UserTable → Bool
shares_as_one Sessions user = false
shares_as_one Users user = bytes_eq user.name.now (codes "anonymous")

abbrev pub one_user_warnings : ShareBy → UserTable → List Warning
one_user_warnings by user = if shares_as_one by user then OneUser user.name ∷ [] else []

-- ---- all

abbrev pub server_warnings : ServerTable → Option Sight → Option ℕ → List SeenUser → List Warning
server_warnings server root mode rows =
    root_warnings server.root ++ sight_warnings server.root root ++ port_warnings server
    ++ all_warnings server rows ++ file_warnings mode rows

abbrev pub access_warnings : UserTable → List Warning
access_warnings user =
    (if is_open user then NoPassword user.name ∷ [] else [])
    ++ (if may_browse user.perms.now then [] else Unbrowsed user.name user.perms ∷ [])

abbrev pub first_warnings : UserTable → Option Shortage → List Warning
first_warnings user None = []
first_warnings user (Some why) = NoFirstSession user.name why ∷ []

abbrev pub second_warnings : UserTable → Option Shortage → List Warning
second_warnings user None = []
second_warnings user (Some why) = NoSecondSession user.name why ∷ []

abbrev pub floor_warnings : ServerTable → List GroupTable → UserTable → List Warning
floor_warnings server groups user =
    first_warnings user (shortage_of server groups user 1)
    ++ second_warnings user (second_shortage server groups user)

abbrev pub user_warnings : ShareBy → ServerTable → List GroupTable → Option Sight → SeenUser
    → List Warning
user_warnings by server groups root row =
    name_warnings row.user.now ++ access_warnings row.user.now
    ++ floor_warnings server groups row.user.now
    ++ home_warnings root row ++ one_user_warnings by row.user.now

-- those of the root, of the server and of the file, and then those of the users in their order, for
-- a line that is shared in that way
abbrev pub warnings : ShareBy → ServerTable → List GroupTable → Option Sight → Option ℕ
    → List SeenUser → List Warning
warnings by server groups root mode rows =
    server_warnings server root mode rows ++ flat_map (user_warnings by server groups root) rows
