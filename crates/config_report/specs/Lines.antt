-- The lines of the report on a configuration.
use Rattle.std.specs.Prelude.{ℕ, ◌&&◌, if◌then◌else◌, nat_eq, List, [], ◌∷◌, ◌++◌, codes, Some, None}
use Rattle.std.specs.Fmt.{decimal}
use Rattle.std.specs.List.{flat_map}
use Rattle.config_file.specs.declared.stated.ServerTable.{ServerTable}
use Rattle.config_file.specs.declared.stated.GroupTable.{GroupTable}
use Rattle.config_file.specs.declared.stated.UserTable.{UserTable}
use Rattle.config_file.specs.declared.tables.Tables.{Tables}
use Rattle.rate_columns.specs.Columns.{left, right}
use Rattle.rate_columns.specs.Rates.{megabits_column, rate_column}
use Rattle.config_report.specs.ServerLines.{server_lines}
use Rattle.config_report.specs.UserLines.{permitted, rest_word, user_lines, users_head}
use Rattle.config_report.specs.declared.floors.ShortRate.{ShortRate}
use Rattle.config_report.specs.declared.floors.ShortRate.TheVariants.{Server, ServerDown, ServerUp, GroupDown, GroupUp, UserDown, UserUp, SessionDown, SessionUp}
use Rattle.config_report.specs.declared.floors.Shortage.{Shortage}
use Rattle.config_report.specs.declared.seen.SeenUser.{SeenUser}
use Rattle.config_report.specs.declared.warning.Warning.{Warning}
use Rattle.config_report.specs.declared.warning.Warning.TheVariants.{NearlyMemory, RelativeRoot, AbsentRoot, NoFolderRoot, ClosedRoot, PublicPasswords, NoAddress, OwnPorts, PortAmongPassive, FewPorts, FewLanes, GuaranteesWait, PromisedDown, PromisedUp, PromisedBoth, NoUser, NoName, BlankName, NoPassword, Unbrowsed, NoFirstSession, NoSecondSession, NoHome, OneUser}

-- ---- rates and guarantees

-- two rates, down and up, in octets and in Mbit/s, which end the line
abbrev pub rate_columns : ℕ → ℕ → List ℕ
rate_columns down up =
    rate_column down ++ rate_column up ++ megabits_column down ++ megabits_column up ++ 10 ∷ []

abbrev pub rates_head : List ℕ
rates_head =
    10 ∷ left 24 (codes "octets a second") ++ right 14 (codes "down") ++ right 14 (codes "up")
    ++ right 12 (codes "Mbit/s down") ++ right 12 (codes "Mbit/s up") ++ 10 ∷ []

abbrev pub ways_line : ServerTable → List ℕ
ways_line server = left 24 (codes "server") ++ rate_columns server.down_rate server.up_rate

abbrev pub both_line : ServerTable → List ℕ
both_line server =
    left 24 (codes "both ways together") ++ rate_column server.rate ++ right 14 []
    ++ megabits_column server.rate ++ 10 ∷ []

abbrev pub server_rates : ServerTable → List ℕ
server_rates server = rates_head ++ ways_line server ++ both_line server

abbrev pub group_rates : GroupTable → List ℕ
group_rates group =
    codes "group " ++ left 18 group.name.now ++ rate_columns group.down_rate group.up_rate

-- a line of two rates of a user's sessions, unless both are 0
abbrev pub part_line : List ℕ → ℕ → ℕ → List ℕ
part_line head down up =
    if nat_eq down 0 && nat_eq up 0 then [] else left 24 head ++ rate_columns down up

abbrev pub user_line : UserTable → List ℕ
user_line user =
    codes "user " ++ left 19 user.name.now ++ rate_columns user.down_rate user.up_rate

abbrev pub user_rates : UserTable → List ℕ
user_rates user =
    user_line user
    ++ part_line (codes "  each session") user.session_down_rate user.session_up_rate
    ++ part_line (codes "  guaranteed to each") user.session_down_floor user.session_up_floor

-- ---- warnings

-- guarantees in all, and the rate that they do not fit into
abbrev pub promised_text : ℕ → ℕ → List ℕ → List ℕ
promised_text promised rate head =
    codes "a session of each user is guaranteed " ++ (decimal promised
    ++ (head ++ (decimal rate ++ codes ": not all of them can be logged in at once")))

-- a rate in the words of a plan
abbrev pub short_rate_text : ShortRate → List ℕ
short_rate_text Server = codes "server"
short_rate_text ServerDown = codes "server down"
short_rate_text ServerUp = codes "server up"
short_rate_text (GroupDown None) = codes "group down"
short_rate_text (GroupDown (Some name)) = codes "group " ++ (name.now ++ codes " down")
short_rate_text (GroupUp None) = codes "group up"
short_rate_text (GroupUp (Some name)) = codes "group " ++ (name.now ++ codes " up")
short_rate_text (UserDown name) = codes "user " ++ (name.now ++ codes " down")
short_rate_text (UserUp name) = codes "user " ++ (name.now ++ codes " up")
short_rate_text SessionDown = codes "session down"
short_rate_text SessionUp = codes "session up"

-- the octets that would be guaranteed, and the rate
abbrev pub shortage_text : Shortage → List ℕ
shortage_text why =
    decimal why.promised ++ (codes " octets a second would be guaranteed of the "
    ++ (decimal why.rate ++ (codes " of " ++ short_rate_text why.limit)))

abbrev pub warning_text : Warning → List ℕ
warning_text (NearlyMemory root) =
    root.now ++ codes " is the path of a folder; the word for a store in memory is memory"
warning_text (RelativeRoot root) =
    codes "the folder " ++ root.now
    ++ codes " is sought where the program is started; state a path that begins with /"
warning_text (AbsentRoot root) = codes "the folder " ++ root.now ++ codes " is not there"
warning_text (NoFolderRoot root) = root.now ++ codes " is no folder"
warning_text (ClosedRoot root) = codes "the folder " ++ root.now ++ codes " cannot be listed"
warning_text PublicPasswords =
    codes "everybody on this machine may read the passwords of this file; "
    ++ codes "make it readable by its owner and group alone"
warning_text NoAddress =
    codes "clients are told the address that they reached; behind a router state masquerade_address"
warning_text (OwnPorts first last) =
    codes "the machine takes ports 32768 to 60999 for its own connections; passive ones are "
    ++ decimal first ++ codes " to " ++ decimal last
warning_text (PortAmongPassive port first last) =
    codes "port " ++ (decimal port
    ++ (codes " is that of control connections and among the passive ports, "
    ++ (decimal first ++ (codes " to " ++ (decimal last ++ codes ": no client is told it")))))
warning_text (FewLanes lanes connections) =
    decimal connections ++ codes " connections have fewer lanes, " ++ decimal lanes
    ++ codes ": while as many transfers run, listings and transfers of others wait"
warning_text (GuaranteesWait lanes) =
    codes "a session gets what it is guaranteed while its transfer has a lane, "
    ++ (codes "and may wait for one: lanes = " ++ decimal lanes)
warning_text (PromisedDown promised rate) =
    promised_text promised rate (codes " down in all, and the rate is ")
warning_text (PromisedUp promised rate) =
    promised_text promised rate (codes " up in all, and the rate is ")
warning_text (PromisedBoth promised rate) =
    promised_text promised rate (codes " both ways in all, and the rate is ")
warning_text NoUser = codes "no user is stated, so nobody can log in"
warning_text NoName = codes "the name of a user is empty, so nobody can log in by it"
warning_text (BlankName user) =
    codes "user " ++ user.now ++ codes ": the name begins or ends with a blank"
warning_text (FewPorts first last connections) =
    decimal connections ++ codes " connections have fewer passive ports, " ++ decimal first
    ++ codes " to " ++ decimal last
warning_text (NoPassword user) =
    codes "user " ++ user.now ++ codes ": the password is empty, and anybody may log in"
warning_text (Unbrowsed user letters) =
    codes "user " ++ (user.now ++ (codes ": clients need the letters e and l; permitted: "
    ++ (permitted letters.now ++ rest_word letters.now)))
warning_text (NoFirstSession user why) =
    codes "user " ++ (user.now
    ++ (codes ": not even the first session can be guaranteed what each is, "
    ++ (codes "and no login is accepted: " ++ shortage_text why)))
warning_text (NoSecondSession user why) =
    codes "user " ++ (user.now
    ++ (codes ": a second session cannot be guaranteed what each is: " ++ shortage_text why))
warning_text (NoHome user home) =
    home.now ++ (codes ", the home of user " ++ (user.now ++ codes ", is no directory"))
warning_text (OneUser user) =
    codes "user " ++ user.now
    ++ codes ": all its sessions are one user, and share one part in each direction"

abbrev pub warning_line : Warning → List ℕ
warning_line warning = codes "warning: " ++ warning_text warning ++ 10 ∷ []

-- the texts of warnings, a line each
abbrev pub warning_row : Warning → List ℕ
warning_row warning = warning_text warning ++ 10 ∷ []

-- ---- all

abbrev pub report_text : Tables → List GroupTable → List UserTable → List SeenUser → List Warning
    → List ℕ
report_text tables groups users rows warnings =
    server_lines tables ++ server_rates tables.server ++ flat_map group_rates groups
    ++ flat_map user_rates users
    ++ users_head ++ flat_map user_lines rows ++ flat_map warning_line warnings
