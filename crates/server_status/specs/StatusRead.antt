-- The status that a value has, and the fault of a value that has none.
use Rattle.std.specs.Prelude.{◌≡◌, ◌≢◌, ◌⊎◌, ℕ, Bool, false, List, [], ◌∷◌, Option, Some, codes, option_and_then, option_map, string_bytes, unwrap_or}
use Rattle.std.specs.declared.net.ipv4_addr.Ipv4Addr.{Ipv4Addr}
use Rattle.std.specs.Net.Addr.{ipv4_octets}
use Rattle.serde_json.specs.Data.{Data, Items, no_items, item}
use Rattle.serde_json.specs.Find.{as_array, as_bool, as_str, get}
use Rattle.server_status.specs.declared.fault.StatusFault.{StatusFault}
use Rattle.server_status.specs.declared.fault.StatusFault.TheVariants.{Version}
use Rattle.server_status.specs.declared.status.AccountStatus.{AccountStatus}
use Rattle.server_status.specs.declared.status.Direction.{Direction}
use Rattle.server_status.specs.declared.status.Direction.TheVariants.{Down}
use Rattle.server_status.specs.declared.status.EndCounts.{EndCounts}
use Rattle.server_status.specs.declared.status.GroupStatus.{GroupStatus}
use Rattle.server_status.specs.declared.status.HeldRounds.{HeldRounds}
use Rattle.server_status.specs.declared.status.LineRates.{LineRates}
use Rattle.server_status.specs.declared.status.SessionStatus.{SessionStatus}
use Rattle.server_status.specs.declared.status.SharedAmong.{SharedAmong}
use Rattle.server_status.specs.declared.status.SharedAmong.TheVariants.{Sessions}
use Rattle.server_status.specs.declared.status.Status.{Status}
use Rattle.server_status.specs.declared.status.TransferStatus.{TransferStatus}
use Rattle.server_status.specs.Fits.{AllHave, HasAll, IsAddress, IsFirstFault, IsFirstFaultIn, count_of, direction_of, sharers_of}
use Rattle.server_status.specs.Tables.{account_rows, group_rows, session_rows, status_rows, transfer_rows, version_rows}

-- ---- the value of a member of a record; 0, false, down, sessions, or nothing if the record has it
-- not

abbrev pub member_in : List ℕ → Option Data → Option Data
member_in name record_data = option_and_then (get name) record_data

-- a number or a rate; 0 for null
abbrev pub count_in : List ℕ → Option Data → ℕ
count_in name d = unwrap_or (option_and_then count_of (member_in name d)) 0

abbrev pub count_if_in : List ℕ → Option Data → Option ℕ
count_if_in name d = option_and_then count_of (member_in name d)

abbrev pub flag_in : List ℕ → Option Data → Bool
flag_in name d = unwrap_or (option_and_then as_bool (member_in name d)) false

abbrev pub direction_in : List ℕ → Option Data → Direction
direction_in name d = unwrap_or (option_and_then direction_of (member_in name d)) Down

abbrev pub sharers_in : List ℕ → Option Data → SharedAmong
sharers_in name d = unwrap_or (option_and_then sharers_of (member_in name d)) Sessions

abbrev pub text_if_in : List ℕ → Option Data → Option (List ℕ)
text_if_in name d = option_and_then as_str (member_in name d)

abbrev pub text_in : List ℕ → Option Data → List ℕ
text_in name d = unwrap_or (text_if_in name d) []

abbrev pub listed : Items → List Data
listed no_items = []
listed (item d ds) = d ∷ listed ds

abbrev pub list_in : List ℕ → Option Data → List Data
list_in name d = listed (unwrap_or (option_and_then as_array (member_in name d)) no_items)

-- the octets of the address of that text
abbrev pub IsPeerIn : List ℕ → Option Data → List ℕ → Type 0
IsPeerIn name d octets =
    (value : Data) (address : Ipv4Addr) → member_in name d ≡ Some value → IsAddress value address
    → octets ≡ ipv4_octets address

-- ---- records

abbrev pub held_in : Option Data → HeldRounds
held_in d = record {
  server = count_in (codes "server") d;
  direction = count_in (codes "direction") d;
  group = count_in (codes "group") d;
  user = count_in (codes "user") d;
  session = count_in (codes "session") d;
  nothing = count_in (codes "nothing") d;
}

abbrev pub ends_in : Option Data → EndCounts
ends_in d = record {
  whole = count_in (codes "whole") d;
  aborted = count_in (codes "aborted") d;
  unconnected = count_in (codes "unconnected") d;
  lost = count_in (codes "lost") d;
  file = count_in (codes "file") d;
  memory = count_in (codes "memory") d;
  owner = count_in (codes "owner") d;
}

abbrev pub line_in : Option Data → LineRates
line_in d = record {
  both = count_in (codes "both") d;
  down = count_in (codes "down") d;
  up = count_in (codes "up") d;
}

-- the record has this group
pub record IsGroupOf (d : Data) (group : GroupStatus) : Type 0 where
  pub name : string_bytes group.name ≡ text_in (codes "name") (Some d)
  pub down : group.down ≡ count_in (codes "down") (Some d)
  pub up : group.up ≡ count_in (codes "up") (Some d)
  pub guaranteed_down : group.guaranteed_down ≡ count_in (codes "guaranteed_down") (Some d)
  pub guaranteed_up : group.guaranteed_up ≡ count_in (codes "guaranteed_up") (Some d)

-- the record has this session
pub record IsSessionOf (d : Data) (s : SessionStatus) : Type 0 where
  pub session : s.session ≡ count_in (codes "session") (Some d)
  pub user : option_map string_bytes s.user ≡ text_if_in (codes "user") (Some d)
  pub group : option_map string_bytes s.group ≡ text_if_in (codes "group") (Some d)
  pub peer : IsPeerIn (codes "peer") (Some d) s.peer
  pub begun : s.begun ≡ count_in (codes "begun") (Some d)
  pub active : s.active ≡ count_in (codes "active") (Some d)
  pub guaranteed_down : s.guaranteed_down ≡ count_in (codes "guaranteed_down") (Some d)
  pub guaranteed_up : s.guaranteed_up ≡ count_in (codes "guaranteed_up") (Some d)

-- the record has this account
pub record IsAccountOf (d : Data) (a : AccountStatus) : Type 0 where
  pub user : string_bytes a.user ≡ text_in (codes "user") (Some d)
  pub group : option_map string_bytes a.group ≡ text_if_in (codes "group") (Some d)
  pub granted_down : a.granted_down ≡ count_in (codes "granted_down") (Some d)
  pub granted_up : a.granted_up ≡ count_in (codes "granted_up") (Some d)
  pub unmet_down : a.unmet_down ≡ count_in (codes "unmet_down") (Some d)
  pub unmet_up : a.unmet_up ≡ count_in (codes "unmet_up") (Some d)

-- the record has this transfer
pub record IsTransferOf (d : Data) (t : TransferStatus) : Type 0 where
  pub session : t.session ≡ count_in (codes "session") (Some d)
  pub user : string_bytes t.user ≡ text_in (codes "user") (Some d)
  pub group : option_map string_bytes t.group ≡ text_if_in (codes "group") (Some d)
  pub peer : IsPeerIn (codes "peer") (Some d) t.peer
  pub direction : t.direction ≡ direction_in (codes "direction") (Some d)
  pub path : option_map string_bytes t.path ≡ text_if_in (codes "path") (Some d)
  pub size : t.size ≡ count_if_in (codes "size") (Some d)
  pub begun : t.begun ≡ count_in (codes "begun") (Some d)
  pub is_waiting : t.is_waiting ≡ flag_in (codes "waiting") (Some d)
  pub granted : t.granted ≡ count_in (codes "granted") (Some d)
  pub moved : t.moved ≡ count_in (codes "moved") (Some d)
  pub rounds : t.rounds ≡ held_in (member_in (codes "held") (Some d))
  pub guaranteed : t.guaranteed ≡ count_in (codes "guaranteed") (Some d)
  pub session_rate : t.session_rate ≡ count_in (codes "session_rate") (Some d)
  pub user_rate : t.user_rate ≡ count_in (codes "user_rate") (Some d)

-- these records have these, one each
abbrev pub AreOf : {X : Type 0} → (Data → X → Type 0) → List Data → List X → Type 0
AreOf Is [] [] = Unit {0}
AreOf Is (d ∷ ds) (x ∷ xs) = Is d x × AreOf Is ds xs
AreOf Is _ _ = ⊥

-- the value has these members
pub record HasMembers (d : Data) (s : Status) : Type 0 where
  pub started : s.started ≡ count_in (codes "started") (Some d)
  pub micros : s.micros ≡ count_in (codes "micros") (Some d)
  pub line : s.line ≡ line_in (member_in (codes "line") (Some d))
  pub shared_among : s.shared_among ≡ sharers_in (codes "shared_among") (Some d)
  pub guaranteed_down : s.guaranteed_down ≡ count_in (codes "guaranteed_down") (Some d)
  pub guaranteed_up : s.guaranteed_up ≡ count_in (codes "guaranteed_up") (Some d)
  pub groups : AreOf IsGroupOf (list_in (codes "groups") (Some d)) s.groups.items
  pub users : s.users ≡ count_in (codes "users") (Some d)
  pub sessions : s.sessions ≡ count_in (codes "sessions") (Some d)
  pub max_sessions : s.max_sessions ≡ count_in (codes "max_sessions") (Some d)
  pub lanes : s.lanes ≡ count_in (codes "lanes") (Some d)
  pub issued : s.issued ≡ count_in (codes "issued") (Some d)
  pub ended_granted : s.ended_granted ≡ count_in (codes "ended_granted") (Some d)
  pub ended_moved : s.ended_moved ≡ count_in (codes "ended_moved") (Some d)
  pub ended : s.ended ≡ count_in (codes "ended") (Some d)
  pub endings : s.endings ≡ ends_in (member_in (codes "endings") (Some d))
  pub rounds : s.rounds ≡ held_in (member_in (codes "held") (Some d))
  pub failed_logins : s.failed_logins ≡ count_in (codes "failed_logins") (Some d)
  pub logins : s.logins ≡ count_in (codes "logins") (Some d)
  pub refused_logins : s.refused_logins ≡ count_in (codes "refused_logins") (Some d)
  pub refused_guarantees : s.refused_guarantees ≡ count_in (codes "refused_guarantees") (Some d)
  pub refused : s.refused ≡ count_in (codes "refused") (Some d)
  pub lost_lines : s.lost_lines ≡ count_in (codes "lost_lines") (Some d)
  pub waits : s.waits ≡ count_in (codes "waits") (Some d)
  pub transfers : AreOf IsTransferOf (list_in (codes "transfers") (Some d)) s.transfers.items
  pub sessions_now : AreOf IsSessionOf
      (list_in (codes "sessions_now") (Some d)) s.sessions_now.items
  pub accounts : AreOf IsAccountOf (list_in (codes "accounts") (Some d)) s.accounts.items

-- ---- whole values

-- the value is a status: of version 1, with all members, each of its kind
pub record IsFine (d : Data) : Type 0 where
  pub version : count_if_in (codes "version") (Some d) ≡ Some 1
  pub members : HasAll status_rows d
  pub groups : AllHave group_rows (list_in (codes "groups") (Some d))
  pub transfers : AllHave transfer_rows (list_in (codes "transfers") (Some d))
  pub sessions_now : AllHave session_rows (list_in (codes "sessions_now") (Some d))
  pub accounts : AllHave account_rows (list_in (codes "accounts") (Some d))

-- the value is this status
abbrev pub IsStatusOf : Data → Status → Type 0
IsStatusOf d status = IsFine d × HasMembers d status

-- the value is of another version
abbrev pub IsOtherVersion : Data → StatusFault → Type 0
IsOtherVersion d (Version n) = (count_if_in (codes "version") (Some d) ≡ Some n) × (n ≢ 1)
IsOtherVersion d _ = ⊥

-- the value has no version, or another one
abbrev pub IsVersionFault : Data → StatusFault → Type 0
IsVersionFault d fault = IsFirstFault version_rows d fault ⊎ IsOtherVersion d fault

-- the first fault of a list of sessions, and of one of accounts
abbrev pub IsPeopleFault : Data → StatusFault → Type 0
IsPeopleFault d fault =
    IsFirstFaultIn session_rows (list_in (codes "sessions_now") (Some d)) fault
    ⊎ (AllHave session_rows (list_in (codes "sessions_now") (Some d))
    × IsFirstFaultIn account_rows (list_in (codes "accounts") (Some d)) fault)

-- the first fault of a list of groups, and of one of transfers
abbrev pub IsTrafficFault : Data → StatusFault → Type 0
IsTrafficFault d fault =
    IsFirstFaultIn group_rows (list_in (codes "groups") (Some d)) fault
    ⊎ (AllHave group_rows (list_in (codes "groups") (Some d))
    × IsFirstFaultIn transfer_rows (list_in (codes "transfers") (Some d)) fault)

-- the first fault of the lists of a value: of its groups, of its transfers, of its sessions, and of
-- its accounts
abbrev pub IsListFault : Data → StatusFault → Type 0
IsListFault d fault =
    IsTrafficFault d fault
    ⊎ ((AllHave group_rows (list_in (codes "groups") (Some d))
    × AllHave transfer_rows (list_in (codes "transfers") (Some d)))
    × IsPeopleFault d fault)

-- the first fault of a value: of its version, of its members, and of its lists
abbrev pub IsFaultOf : Data → StatusFault → Type 0
IsFaultOf d fault =
    IsVersionFault d fault
    ⊎ ((count_if_in (codes "version") (Some d) ≡ Some 1)
    × (IsFirstFault status_rows d fault
    ⊎ (HasAll status_rows d × IsListFault d fault)))
