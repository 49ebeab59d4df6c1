-- The metrics of a status, as a list of rows.
use Rattle.std.specs.Prelude.{ℕ, ◌+◌, ◌-◌, ◌/◌, if◌then◌else◌, nat_eq, nat_lt, min, length, List, [], ◌∷◌, ◌++◌, codes, string_bytes}
use Rattle.std.specs.List.{flat_map, sum_by}
use Rattle.std.specs.Option.{option_map_or}
use Rattle.server_status.specs.declared.status.AccountStatus.{AccountStatus}
use Rattle.server_status.specs.declared.status.EndCounts.{EndCounts}
use Rattle.server_status.specs.declared.status.GroupStatus.{GroupStatus}
use Rattle.server_status.specs.declared.status.HeldRounds.{HeldRounds}
use Rattle.server_status.specs.declared.status.LineRates.{LineRates}
use Rattle.server_status.specs.declared.status.SessionStatus.{SessionStatus}
use Rattle.server_status.specs.declared.status.SharedAmong.{SharedAmong}
use Rattle.server_status.specs.declared.status.SharedAmong.TheVariants.{Sessions, Users}
use Rattle.server_status.specs.declared.status.Status.{Status}
use Rattle.server_status.specs.declared.status.TransferStatus.{TransferStatus}
use Rattle.status_page.specs.Rows.{ShownLabel, ShownRow, Head, First, Further, counter, gauge, one, row_text}

-- ---- the server

unfoldable pub build_rows : Status → List ShownRow
build_rows status =
    First (codes "ftpd_build_info") (codes "gauge")
    (codes "Version of the server.") (one (codes "version") (codes "1")) 1
    ∷ gauge (codes "ftpd_start_time_seconds") (codes "Start of the server, since 1970.")
    status.started
    ∷ gauge (codes "ftpd_uptime_seconds") (codes "Whole seconds since the start.")
    (status.micros / 1_000_000)
    ∷ []

-- 1 for a session that has done nothing since some moment before this one: it transfers nothing
abbrev pub is_idle : ℕ → SessionStatus → ℕ
is_idle now session = if nat_lt session.active now then 1 else 0

abbrev pub idle : ℕ → List SessionStatus → ℕ
idle now sessions = sum_by (is_idle now) sessions

unfoldable pub session_rows : Status → List ShownRow
session_rows status =
    gauge (codes "ftpd_users") (codes "Users of the configuration.") status.users
    ∷ gauge (codes "ftpd_sessions") (codes "Connected clients.") status.sessions
    ∷ gauge (codes "ftpd_sessions_idle") (codes "Connected clients that transfer nothing.")
    (idle status.micros status.sessions_now.items)
    ∷ gauge (codes "ftpd_sessions_max") (codes "Most clients at once.") status.max_sessions
    ∷ counter (codes "ftpd_login_failures_total") (codes "Wrong passwords.") status.failed_logins
    ∷ counter (codes "ftpd_refused_connections_total") (codes "Refused connections.")
    status.refused
    ∷ []

-- ---- transfers

-- 1 for a transfer that waits for a lane
abbrev pub waits : TransferStatus → ℕ
waits transfer = if transfer.is_waiting then 1 else 0

abbrev pub waiting : List TransferStatus → ℕ
waiting transfers = sum_by waits transfers

abbrev pub running : Status → ℕ
running status = length status.transfers.items - waiting status.transfers.items

-- the octets that transfers have moved, those that have ended included, at most 2^64 - 1
abbrev pub moved_in_all : Status → ℕ
moved_in_all status =
    min (status.ended_moved + sum_by (λ t. t.moved) status.transfers.items) 18446744073709551615

-- 1 if a line is shared among users
abbrev pub by_users : SharedAmong → ℕ
by_users Sessions = 0
by_users Users = 1

unfoldable pub transfer_rows : Status → List ShownRow
transfer_rows status =
    gauge (codes "ftpd_shared_among_users")
    (codes "1 if the line is shared among users, 0 if among sessions.")
    (by_users status.shared_among)
    ∷ gauge (codes "ftpd_lanes") (codes "Most transfers that run at once.") status.lanes
    ∷ First (codes "ftpd_transfers") (codes "gauge")
    (codes "Transfers that have not ended.") (one (codes "state") (codes "running"))
    (running status)
    ∷ Further (codes "ftpd_transfers") (one (codes "state") (codes "waiting"))
    (waiting status.transfers.items)
    ∷ counter (codes "ftpd_transfers_ended_total") (codes "Transfers that have ended.")
    status.ended
    ∷ []

unfoldable pub byte_rows : Status → List ShownRow
byte_rows status =
    counter (codes "ftpd_issued_bytes_total") (codes "Bytes that rounds have granted.")
    status.issued
    ∷ counter (codes "ftpd_moved_bytes_total") (codes "Bytes that transfers have moved.")
    (moved_in_all status)
    ∷ counter (codes "ftpd_ended_granted_bytes_total")
    (codes "Bytes granted to transfers that have ended.") status.ended_granted
    ∷ counter (codes "ftpd_ended_moved_bytes_total")
    (codes "Bytes moved by transfers that have ended.") status.ended_moved
    ∷ []

-- ---- rounds and limits

-- the rounds of a kind, after the first
abbrev pub held_row : List ℕ → ℕ → ShownRow
held_row kind rounds = Further (codes "ftpd_held_rounds_total") (one (codes "kind") kind) rounds

unfoldable pub round_rows : HeldRounds → List ShownRow
round_rows rounds =
    First (codes "ftpd_held_rounds_total") (codes "counter")
    (codes "Rounds of transfers, by the limit that held the transfer back.")
    (one (codes "kind") (codes "server")) rounds.server
    ∷ held_row (codes "direction") rounds.direction
    ∷ held_row (codes "group") rounds.group
    ∷ held_row (codes "user") rounds.user
    ∷ held_row (codes "session") rounds.session
    ∷ held_row (codes "nothing") rounds.nothing
    ∷ []

-- the labels of a limit: its kind, its name, and a direction
abbrev pub limit_labels : List ℕ → List ℕ → List ℕ → List ShownLabel
limit_labels kind name direction =
    record { name = codes "kind"; value = kind } ∷ record { name = codes "name"; value = name }
    ∷ record { name = codes "direction"; value = direction } ∷ []

unfoldable pub limit_row : List ℕ → List ℕ → List ℕ → ℕ → ShownRow
limit_row kind name direction rate =
    Further (codes "ftpd_limit_bytes_per_second") (limit_labels kind name direction) rate

-- a limit, of a direction or of both together; none if it is 0
unfoldable pub limit_rows : List ℕ → List ℕ → List ℕ → ℕ → List ShownRow
limit_rows kind name direction rate =
    if nat_eq rate 0 then [] else limit_row kind name direction rate ∷ []

abbrev pub line_rows : LineRates → List ShownRow
line_rows line =
    limit_rows (codes "server") [] (codes "both") line.both
    ++ limit_rows (codes "direction") [] (codes "down") line.down
    ++ limit_rows (codes "direction") [] (codes "up") line.up

abbrev pub group_rows : GroupStatus → List ShownRow
group_rows group =
    limit_rows (codes "group") (string_bytes group.name) (codes "down") group.down
    ++ limit_rows (codes "group") (string_bytes group.name) (codes "up") group.up

unfoldable pub limit_head : ShownRow
limit_head =
    Head (codes "ftpd_limit_bytes_per_second") (codes "gauge")
    (codes "Limits of the line and of groups; one that is not there has no sample.")

abbrev pub all_limit_rows : Status → List ShownRow
all_limit_rows status =
    limit_head ∷ line_rows status.line ++ flat_map group_rows status.groups.items

-- ---- logins and ends

unfoldable pub login_rows : Status → List ShownRow
login_rows status =
    counter (codes "ftpd_logins_total") (codes "Logins.") status.logins
    ∷ counter (codes "ftpd_refused_logins_total")
    (codes "Logins refused for the number of sessions of their user.") status.refused_logins
    ∷ counter (codes "ftpd_refused_guarantees_total") (codes "Logins refused for a guarantee.")
    status.refused_guarantees
    ∷ counter (codes "ftpd_log_lines_lost_total")
    (codes "Lines of notes and of the transfer log that were dropped.") status.lost_lines
    ∷ []

-- the transfers that ended in a way, after the first
abbrev pub end_row : List ℕ → ℕ → ShownRow
end_row how count = Further (codes "ftpd_transfer_ends_total") (one (codes "how") how) count

unfoldable pub end_rows : EndCounts → List ShownRow
end_rows ends =
    First (codes "ftpd_transfer_ends_total") (codes "counter")
    (codes "Transfers that have ended, by how they did.") (one (codes "how") (codes "whole"))
    ends.whole
    ∷ end_row (codes "aborted") ends.aborted
    ∷ end_row (codes "unconnected") ends.unconnected
    ∷ end_row (codes "lost") ends.lost
    ∷ end_row (codes "file") ends.file
    ∷ end_row (codes "memory") ends.memory
    ∷ end_row (codes "owner") ends.owner
    ∷ []

-- ---- guarantees

-- the guarantees within a limit in a direction, together
unfoldable pub promise_row : List ℕ → List ℕ → List ℕ → ℕ → ShownRow
promise_row kind name direction rate =
    Further (codes "ftpd_guaranteed_bytes_per_second") (limit_labels kind name direction) rate

unfoldable pub promise_head : ShownRow
promise_head =
    Head (codes "ftpd_guaranteed_bytes_per_second") (codes "gauge")
    (codes "Guarantees of the sessions that are logged in, together.")

abbrev pub line_promises : Status → List ShownRow
line_promises status =
    promise_row (codes "direction") [] (codes "down") status.guaranteed_down
    ∷ promise_row (codes "direction") [] (codes "up") status.guaranteed_up ∷ []

abbrev pub group_promises : GroupStatus → List ShownRow
group_promises group =
    promise_row (codes "group") (string_bytes group.name) (codes "down") group.guaranteed_down
    ∷ promise_row (codes "group") (string_bytes group.name) (codes "up") group.guaranteed_up ∷ []

abbrev pub promise_rows : Status → List ShownRow
promise_rows status =
    promise_head ∷ line_promises status ++ flat_map group_promises status.groups.items

-- ---- users

-- the group of a user; empty for none
abbrev pub group_label : AccountStatus → List ℕ
group_label account = option_map_or (λ group. string_bytes group) account.group []

-- the labels of a user: the name, the group, and a direction
abbrev pub user_labels : AccountStatus → List ℕ → List ShownLabel
user_labels account direction =
    record { name = codes "user"; value = string_bytes account.user }
    ∷ record { name = codes "group"; value = group_label account }
    ∷ record { name = codes "direction"; value = direction } ∷ []

unfoldable pub granted_head : ShownRow
granted_head =
    Head (codes "ftpd_granted_bytes_total") (codes "counter")
    (codes "Bytes granted to the transfers of users.")

-- a value of a user in each direction
unfoldable pub user_rows : List ℕ → AccountStatus → ℕ → ℕ → List ShownRow
user_rows metric account down up =
    Further metric (user_labels account (codes "down")) down
    ∷ Further metric (user_labels account (codes "up")) up ∷ []

abbrev pub granted_rows : AccountStatus → List ShownRow
granted_rows account =
    user_rows (codes "ftpd_granted_bytes_total") account account.granted_down account.granted_up

unfoldable pub unmet_head : ShownRow
unmet_head =
    Head (codes "ftpd_guarantee_unmet_seconds_total") (codes "counter")
    (codes "Seconds below nine tenths of a guarantee while a limit held the transfer back.")

-- whole seconds
abbrev pub unmet_rows : AccountStatus → List ShownRow
unmet_rows account =
    user_rows (codes "ftpd_guarantee_unmet_seconds_total") account
    (account.unmet_down / 1_000_000) (account.unmet_up / 1_000_000)

abbrev pub all_granted_rows : List AccountStatus → List ShownRow
all_granted_rows accounts = granted_head ∷ flat_map granted_rows accounts

abbrev pub all_unmet_rows : List AccountStatus → List ShownRow
all_unmet_rows accounts = unmet_head ∷ flat_map unmet_rows accounts

-- ---- all

-- the rows of the server and of transfers
abbrev pub first_rows : Status → List ShownRow
first_rows status =
    build_rows status ++ session_rows status ++ transfer_rows status ++ byte_rows status

-- those of what holds them back, and of their ends
abbrev pub middle_rows : Status → List ShownRow
middle_rows status =
    round_rows status.rounds ++ all_limit_rows status ++ login_rows status
    ++ end_rows status.endings

-- those of guarantees and of users
abbrev pub last_rows : Status → List ShownRow
last_rows status =
    promise_rows status ++ all_granted_rows status.accounts.items
    ++ all_unmet_rows status.accounts.items

abbrev pub rows_of : Status → List ShownRow
rows_of status = first_rows status ++ middle_rows status ++ last_rows status

-- the metrics of a status are the text of its rows
abbrev pub metrics : Status → List ℕ
metrics status = flat_map row_text (rows_of status)
