-- A status, made of the configuration's facts, of what sessions have begun, and of a look at the
-- rounds.
use Rattle.std.specs.Prelude.{◌≡◌, ◌≤◌, ◌-◌, ◌<◌, ◌^◌, ◌+◌, ◌&&◌, ℕ, Bool, true, false, List, [], ◌∷◌, Option, Some, None, bytes_eq, if◌then◌else◌, length, min, nat_eq, slice_get, string_bytes, sum_by}
use Rattle.std.specs.List.{All, list_any}
use Rattle.std.specs.Option.{option_map, option_map_or, option_and_then}
use Rattle.std.specs.FinMap as finite
use Rattle.line_rates.specs.Rates.{Rates, floor_rate, group_of, rate_of}
use Rattle.line_rates.specs.declared.ask.Name.TheVariants.{Server, Direction, Group, User, Session}
use Rattle.line_rates.specs.declared.ask.Way.{Way}
use Rattle.line_rates.specs.declared.ask.Way.TheVariants.{Down, Up}
use Rattle.line_rates.specs.declared.share_by.ShareBy.{ShareBy}
use Rattle.line_rates.specs.declared.share_by.ShareBy.TheVariants as by
use Rattle.round_tally.specs.Counts.{all_rounds, held_sum, no_rounds}
use Rattle.round_tally.specs.declared.held.HeldTally.{HeldTally}
use Rattle.server_house.specs.declared.server_hooks.LaneLook.{LaneLook}
use Rattle.server_house.specs.declared.server_hooks.ServerEvent.{ServerEvent}
use Rattle.server_house.specs.declared.server_hooks.ServerEvent.TheVariants.{Waits}
use Rattle.server_house.specs.declared.server_hooks.ServerLook.{ServerLook}
use Rattle.server_house.specs.declared.server_hooks.TransferKind.{TransferKind}
use Rattle.server_house.specs.declared.server_hooks.TransferKind.TheVariants.{Sent, Received, Listed}
use Rattle.server_status.specs.declared.status.AccountStatus.{AccountStatus}
use Rattle.server_status.specs.declared.status.Direction.{Direction as Towards}
use Rattle.server_status.specs.declared.status.Direction.TheVariants.{Down as ToClient, Up as FromClient}
use Rattle.server_status.specs.declared.status.GroupStatus.{GroupStatus}
use Rattle.server_status.specs.declared.status.HeldRounds.{HeldRounds}
use Rattle.server_status.specs.declared.status.LineRates.{LineRates}
use Rattle.server_status.specs.declared.status.SessionStatus.{SessionStatus}
use Rattle.server_status.specs.declared.status.SharedAmong.{SharedAmong}
use Rattle.server_status.specs.declared.status.SharedAmong.TheVariants as among
use Rattle.server_status.specs.declared.status.Status.{Status}
use Rattle.server_status.specs.declared.status.TransferStatus.{TransferStatus}
use Rattle.status_keeper.specs.declared.facts.Counts.{Counts}
use Rattle.status_keeper.specs.declared.facts.KeptAccount.{KeptAccount}
use Rattle.status_keeper.specs.declared.facts.KeptSession.{KeptSession}
use Rattle.status_keeper.specs.declared.facts.KeptTransfer.{KeptTransfer}
use Rattle.status_keeper.specs.declared.facts.StatedGroup.{StatedGroup}
use Rattle.status_keeper.specs.declared.facts.StatusFacts.{StatusFacts}

-- the calls of the machine that an end waits for, as this event or one before it told
abbrev pub waits_after : ℕ → ServerEvent → ℕ
waits_after before (Waits calls) = calls
waits_after before _ = before

abbrev pub way_of : TransferKind → Way
way_of Sent = Down
way_of Received = Up
way_of Listed = Down

abbrev pub direction_of : Way → Towards
direction_of Down = ToClient
direction_of Up = FromClient

abbrev pub rounds_of : HeldTally → HeldRounds
rounds_of h = record {
  server = h.server;
  direction = h.direction;
  group = h.group;
  user = h.user;
  session = h.session;
  nothing = h.nothing;
}

-- the lane that runs the transfer of a session, if one of these does
abbrev pub IsLaneOf : List LaneLook → ℕ → Option LaneLook → Type 0
IsLaneOf lanes session None = All (λ l. ¬ l.session ≡ Some session) lanes
IsLaneOf lanes session (Some lane) =
    (lane.session ≡ Some session) × ((i : ℕ) × (slice_get lanes i ≡ Some lane))

-- the name of the group of a user, if there is one
abbrev pub group_in : StatusFacts → ℕ → Option (List ℕ)
group_in facts user = option_map string_bytes
    (option_and_then (λ group. slice_get facts.groups.items group) (group_of facts.limits user))

-- the row of a transfer: what its session has begun, what its lane was granted and has moved, what
-- held it back, and its limits
pub record IsRow (facts : StatusFacts) (lanes : List LaneLook) (t : KeptTransfer)
    (row : TransferStatus) : Type 0 where
  pub lane : Option LaneLook
  pub is_lane : IsLaneOf lanes t.connection lane
  pub session : row.session ≡ t.session
  pub user : string_bytes row.user ≡ string_bytes t.user
  pub group : option_map string_bytes row.group ≡ group_in facts t.number
  pub peer : row.peer ≡ t.peer
  pub direction : row.direction ≡ direction_of (way_of t.kind)
  pub path : option_map string_bytes row.path ≡ option_map string_bytes t.path
  pub size : row.size ≡ t.size
  pub begun : row.begun ≡ t.since - facts.zero
  pub granted : row.granted ≡ option_map_or (λ l. l.tally.granted) lane 0
  pub moved : row.moved ≡ option_map_or (λ l. min l.moved l.tally.granted) lane 0
  pub within : row.moved ≤ row.granted
  pub rounds : row.rounds
      ≡ rounds_of (option_map_or (λ l. all_rounds l.tally) lane no_rounds)
  pub guaranteed : row.guaranteed
      ≡ floor_rate (finite.get facts.limits.users t.number) (way_of t.kind)
  pub session_rate : row.session_rate ≡ rate_of facts.limits (Session (way_of t.kind) t.number 0)
  pub user_rate : row.user_rate ≡ rate_of facts.limits (User (way_of t.kind) t.number)

-- a row for each transfer, in their order
pub record AreRows (facts : StatusFacts) (lanes : List LaneLook) (ts : List KeptTransfer)
    (rows : List TransferStatus) : Type 0 where
  pub count : length rows ≡ length ts
  pub each : (i : ℕ) (row : TransferStatus) → slice_get rows i ≡ Some row
      → (t : KeptTransfer) × (slice_get ts i ≡ Some t) × IsRow facts lanes t row

-- ---- sessions

-- guarantee of a session of a user in a direction; nothing without a user
abbrev pub guaranteed_of : StatusFacts → Option ℕ → Way → ℕ
guaranteed_of facts number way =
    option_map_or (λ user. floor_rate (finite.get facts.limits.users user) way) number 0

-- one of these transfers is of the session
abbrev pub is_transferring : ℕ → List KeptTransfer → Bool
is_transferring session ts = list_any (λ t. nat_eq t.session session) ts

-- the moment of what a session did last: that of the look while it transfers
abbrev pub active_at : List KeptTransfer → ℕ → KeptSession → ℕ
active_at ts now s = if is_transferring s.session ts then now else s.active

-- the row of a session
pub record IsSession (facts : StatusFacts) (ts : List KeptTransfer) (now : ℕ) (s : KeptSession)
    (row : SessionStatus) : Type 0 where
  pub session : row.session ≡ s.session
  pub user : option_map string_bytes row.user ≡ option_map string_bytes s.user
  pub group : option_map string_bytes row.group ≡ option_and_then (group_in facts) s.number
  pub peer : row.peer ≡ s.peer
  pub begun : row.begun ≡ s.since - facts.zero
  pub active : row.active ≡ active_at ts now s - facts.zero
  pub guaranteed_down : row.guaranteed_down ≡ guaranteed_of facts s.number Down
  pub guaranteed_up : row.guaranteed_up ≡ guaranteed_of facts s.number Up

-- a row for each session, in their order
pub record AreSessions (facts : StatusFacts) (ts : List KeptTransfer) (now : ℕ)
    (ss : List KeptSession) (rows : List SessionStatus) : Type 0 where
  pub count : length rows ≡ length ss
  pub each : (i : ℕ) (row : SessionStatus) → slice_get rows i ≡ Some row
      → (s : KeptSession) × (slice_get ss i ≡ Some s) × IsSession facts ts now s row

-- guarantee of a session in a direction
abbrev pub promised_to : Way → SessionStatus → ℕ
promised_to Down row = row.guaranteed_down
promised_to Up row = row.guaranteed_up

-- guarantees of all sessions together
abbrev pub promised : Way → List SessionStatus → ℕ
promised way rows = min (sum_by (promised_to way) rows) (2 ^ 64 - 1)

-- the same of the sessions of the users of a group
abbrev pub is_inside : List ℕ → SessionStatus → Bool
is_inside name row = option_map_or (λ group. bytes_eq (string_bytes group) name) row.group false

abbrev pub promised_in : List ℕ → Way → List SessionStatus → ℕ
promised_in name way rows =
    min (sum_by (λ row. if is_inside name row then promised_to way row else 0) rows) (2 ^ 64 - 1)

-- ---- users

abbrev pub same_towards : Towards → Towards → Bool
same_towards ToClient ToClient = true
same_towards ToClient FromClient = false
same_towards FromClient ToClient = false
same_towards FromClient FromClient = true

abbrev pub is_owned : List ℕ → Towards → TransferStatus → Bool
is_owned user way row =
    same_towards way row.direction && bytes_eq (string_bytes row.user) user

-- the octets granted to the transfers of a user that are there, in a direction
abbrev pub granted_now : List ℕ → Towards → List TransferStatus → ℕ
granted_now user way rows =
    min (sum_by (λ row. if is_owned user way row then row.granted else 0) rows) (2 ^ 64 - 1)

-- The row of a user: what transfers got that have ended, and what those that are there have.
pub record IsAccount (facts : StatusFacts) (rows : List TransferStatus) (a : KeptAccount)
    (row : AccountStatus) : Type 0 where
  pub user : string_bytes row.user ≡ string_bytes a.user
  pub group : option_map string_bytes row.group ≡ group_in facts a.number
  pub granted_down : row.granted_down
      ≡ min (a.granted_down + granted_now (string_bytes a.user) ToClient rows) (2 ^ 64 - 1)
  pub granted_up : row.granted_up
      ≡ min (a.granted_up + granted_now (string_bytes a.user) FromClient rows) (2 ^ 64 - 1)
  pub unmet_down : row.unmet_down ≡ a.unmet_down
  pub unmet_up : row.unmet_up ≡ a.unmet_up

-- a row for each user, in their order
pub record AreAccounts (facts : StatusFacts) (transfers : List TransferStatus)
    (as_kept : List KeptAccount) (rows : List AccountStatus) : Type 0 where
  pub count : length rows ≡ length as_kept
  pub each : (i : ℕ) (row : AccountStatus) → slice_get rows i ≡ Some row
      → (a : KeptAccount) × (slice_get as_kept i ≡ Some a) × IsAccount facts transfers a row

-- ---- the whole

-- the octets granted to the transfers of rows
abbrev pub granted_in : List TransferStatus → ℕ
granted_in rows = min (sum_by (λ row. row.granted) rows) (2 ^ 64 - 1)

-- the rounds of lanes, with those before
abbrev pub rounds_with : HeldTally → List LaneLook → HeldTally
rounds_with held [] = held
rounds_with held (l ∷ ls) = rounds_with (held_sum held (all_rounds l.tally)) ls

-- a group, with its name, its rates, and what is guaranteed to the sessions of its users
pub record IsGroup (rates : Rates) (sessions : List SessionStatus) (stated : StatedGroup)
    (group : GroupStatus) : Type 0 where
  pub name : string_bytes group.name ≡ string_bytes stated.name
  pub down : group.down ≡ rate_of rates (Group Down stated.number)
  pub up : group.up ≡ rate_of rates (Group Up stated.number)
  pub guaranteed_down : group.guaranteed_down
      ≡ promised_in (string_bytes stated.name) Down sessions
  pub guaranteed_up : group.guaranteed_up ≡ promised_in (string_bytes stated.name) Up sessions

-- a row for each group that the configuration has, in its order
pub record AreGroups (rates : Rates) (sessions : List SessionStatus) (stated : List StatedGroup)
    (groups : List GroupStatus) : Type 0 where
  pub count : length groups ≡ length stated
  pub each : (i : ℕ) (g : GroupStatus) → slice_get groups i ≡ Some g
      → (s : StatedGroup) × (slice_get stated i ≡ Some s) × IsGroup rates sessions s g

abbrev pub line_of : Rates → LineRates
line_of rates = record {
  both = rate_of rates Server;
  down = rate_of rates (Direction Down);
  up = rate_of rates (Direction Up);
}

-- among whom a line is shared
abbrev pub among_of : ShareBy → SharedAmong
among_of by.Sessions = among.Sessions
among_of by.Users = among.Users

-- The status at a look. The octets granted to its transfers, and those granted to transfers that
-- have ended, are those that were issued.
pub record IsStatus (facts : StatusFacts) (ts : List KeptTransfer) (inside : List KeptSession)
    (known : List KeptAccount) (counts : Counts) (look : ServerLook) (s : Status)
    : Type 0 where
  pub started : s.started ≡ facts.started
  pub micros : s.micros ≡ look.micros - facts.zero
  pub line : s.line ≡ line_of facts.limits
  pub shared_among : s.shared_among ≡ among_of facts.limits.share_by
  pub guaranteed_down : s.guaranteed_down ≡ promised Down s.sessions_now.items
  pub guaranteed_up : s.guaranteed_up ≡ promised Up s.sessions_now.items
  pub groups : AreGroups facts.limits s.sessions_now.items facts.stated.items s.groups.items
  pub users : s.users ≡ facts.users
  pub sessions : s.sessions ≡ look.sessions
  pub max_sessions : s.max_sessions ≡ facts.max_sessions
  pub lanes : s.lanes ≡ facts.lanes
  pub issued : s.issued ≡ look.issued
  pub ended_granted : s.ended_granted ≡ look.issued - granted_in s.transfers.items
  pub ended_moved : s.ended_moved ≡ counts.ended_moved
  pub ended : s.ended ≡ counts.ended
  pub endings : s.endings ≡ counts.endings
  pub rounds : s.rounds ≡ rounds_of (rounds_with (all_rounds look.ended) look.lanes.now)
  pub logins : s.logins ≡ counts.logins
  pub failed_logins : s.failed_logins ≡ counts.failed_logins
  pub refused_logins : s.refused_logins ≡ counts.refused_logins
  pub refused_guarantees : s.refused_guarantees ≡ counts.refused_guarantees
  pub refused : s.refused ≡ counts.refused
  pub waits : s.waits ≡ counts.waits
  pub lost_lines : s.lost_lines ≡ counts.lost_lines
  pub transfers : AreRows facts look.lanes.now ts s.transfers.items
  pub sessions_now : AreSessions facts ts look.micros inside s.sessions_now.items
  pub accounts : AreAccounts facts s.transfers.items known s.accounts.items
