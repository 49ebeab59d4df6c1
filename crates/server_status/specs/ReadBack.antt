-- The status that octets have, and that a status which was written is read as the same.
use Rattle.std.specs.Prelude.{◌≡◌, ◌⊎◌, ◌-◌, ◌^◌, ◌<◌, ◌==◌, ℕ, List, [], ◌∷◌, None, Some, Result, Ok, Err, IsUtf8, if◌then◌else◌, length, option_map, slice_get, slice_index, string_bytes, take}
use Rattle.serde_json.specs.Data.{Data}
use Rattle.serde_json.specs.Read.{read}
use Rattle.server_status.specs.declared.fault.StatusFault.{StatusFault}
use Rattle.server_status.specs.declared.fault.StatusFault.TheVariants.{Memory, NotJson}
use Rattle.server_status.specs.declared.status.AccountStatus.{AccountStatus}
use Rattle.server_status.specs.declared.status.GroupStatus.{GroupStatus}
use Rattle.server_status.specs.declared.status.SessionStatus.{SessionStatus}
use Rattle.server_status.specs.declared.status.Status.{Status}
use Rattle.server_status.specs.declared.status.TransferStatus.{TransferStatus}
use Rattle.server_status.specs.StatusRead.{IsFaultOf, IsStatusOf}

-- ---- what octets have

-- the octets before the line feed at the end, if there is one
abbrev pub without_feed : List ℕ → List ℕ
without_feed octets =
    if slice_index octets (length octets - 1) == 10 then take (length octets - 1) octets
    else octets

-- the octets are no UTF-8, or no JSON
abbrev pub HasNoJson : List ℕ → Type 0
HasNoJson octets = IsUtf8 octets → read octets ≡ None

-- the octets have this status
abbrev pub HasStatus : List ℕ → Status → Type 0
HasStatus octets status =
    (d : Data) × (read (without_feed octets) ≡ Some d) × IsStatusOf d status

-- memory ran out; or the octets have no JSON; or they have a value whose first fault this is
abbrev pub IsReadFault : List ℕ → StatusFault → Type 0
IsReadFault octets fault =
    (fault ≡ Memory)
    ⊎ (((fault ≡ NotJson) × HasNoJson (without_feed octets))
    ⊎ ((d : Data) × (read (without_feed octets) ≡ Some d) × IsFaultOf d fault))

-- ---- the same status

pub record IsSameGroup (a b : GroupStatus) : Type 0 where
  pub name : string_bytes a.name ≡ string_bytes b.name
  pub down : a.down ≡ b.down
  pub up : a.up ≡ b.up
  pub guaranteed_down : a.guaranteed_down ≡ b.guaranteed_down
  pub guaranteed_up : a.guaranteed_up ≡ b.guaranteed_up

pub record IsSameSession (a b : SessionStatus) : Type 0 where
  pub session : a.session ≡ b.session
  pub user : option_map string_bytes a.user ≡ option_map string_bytes b.user
  pub group : option_map string_bytes a.group ≡ option_map string_bytes b.group
  pub peer : a.peer ≡ b.peer
  pub begun : a.begun ≡ b.begun
  pub active : a.active ≡ b.active
  pub guaranteed_down : a.guaranteed_down ≡ b.guaranteed_down
  pub guaranteed_up : a.guaranteed_up ≡ b.guaranteed_up

pub record IsSameAccount (a b : AccountStatus) : Type 0 where
  pub user : string_bytes a.user ≡ string_bytes b.user
  pub group : option_map string_bytes a.group ≡ option_map string_bytes b.group
  pub granted_down : a.granted_down ≡ b.granted_down
  pub granted_up : a.granted_up ≡ b.granted_up
  pub unmet_down : a.unmet_down ≡ b.unmet_down
  pub unmet_up : a.unmet_up ≡ b.unmet_up

pub record IsSameTransfer (a b : TransferStatus) : Type 0 where
  pub session : a.session ≡ b.session
  pub user : string_bytes a.user ≡ string_bytes b.user
  pub group : option_map string_bytes a.group ≡ option_map string_bytes b.group
  pub peer : a.peer ≡ b.peer
  pub direction : a.direction ≡ b.direction
  pub path : option_map string_bytes a.path ≡ option_map string_bytes b.path
  pub size : a.size ≡ b.size
  pub begun : a.begun ≡ b.begun
  pub is_waiting : a.is_waiting ≡ b.is_waiting
  pub granted : a.granted ≡ b.granted
  pub moved : a.moved ≡ b.moved
  pub rounds : a.rounds ≡ b.rounds
  pub guaranteed : a.guaranteed ≡ b.guaranteed
  pub session_rate : a.session_rate ≡ b.session_rate
  pub user_rate : a.user_rate ≡ b.user_rate

-- one by one
abbrev pub AreSame : {X : Type 0} → (X → X → Type 0) → List X → List X → Type 0
AreSame Is [] [] = Unit {0}
AreSame Is (x ∷ xs) (y ∷ ys) = Is x y × AreSame Is xs ys
AreSame Is _ _ = ⊥

pub record IsSame (a b : Status) : Type 0 where
  pub started : a.started ≡ b.started
  pub micros : a.micros ≡ b.micros
  pub line : a.line ≡ b.line
  pub shared_among : a.shared_among ≡ b.shared_among
  pub guaranteed_down : a.guaranteed_down ≡ b.guaranteed_down
  pub guaranteed_up : a.guaranteed_up ≡ b.guaranteed_up
  pub groups : AreSame IsSameGroup a.groups.items b.groups.items
  pub users : a.users ≡ b.users
  pub sessions : a.sessions ≡ b.sessions
  pub max_sessions : a.max_sessions ≡ b.max_sessions
  pub lanes : a.lanes ≡ b.lanes
  pub issued : a.issued ≡ b.issued
  pub ended_granted : a.ended_granted ≡ b.ended_granted
  pub ended_moved : a.ended_moved ≡ b.ended_moved
  pub ended : a.ended ≡ b.ended
  pub endings : a.endings ≡ b.endings
  pub rounds : a.rounds ≡ b.rounds
  pub failed_logins : a.failed_logins ≡ b.failed_logins
  pub logins : a.logins ≡ b.logins
  pub refused_logins : a.refused_logins ≡ b.refused_logins
  pub refused_guarantees : a.refused_guarantees ≡ b.refused_guarantees
  pub refused : a.refused ≡ b.refused
  pub lost_lines : a.lost_lines ≡ b.lost_lines
  pub waits : a.waits ≡ b.waits
  pub transfers : AreSame IsSameTransfer a.transfers.items b.transfers.items
  pub sessions_now : AreSame IsSameSession a.sessions_now.items b.sessions_now.items
  pub accounts : AreSame IsSameAccount a.accounts.items b.accounts.items

-- four octets
abbrev pub IsPeer : List ℕ → Type 0
IsPeer octets = (length octets ≡ 4) × ((k : ℕ) → slice_index octets k < 2 ^ 8)

-- each address has four octets, as that of every value of the type has
pub record HavePeers (status : Status) : Type 0 where
  pub transfers : (i : ℕ) (transfer : TransferStatus)
      → slice_get status.transfers.items i ≡ Some transfer → IsPeer transfer.peer
  pub sessions : (i : ℕ) (session : SessionStatus)
      → slice_get status.sessions_now.items i ≡ Some session → IsPeer session.peer

-- the same status was read, unless memory ran out
abbrev pub IsReadAs : Status → Result Status StatusFault → Type 0
IsReadAs status (Ok other) = IsSame status other
IsReadAs status (Err fault) = fault ≡ Memory
