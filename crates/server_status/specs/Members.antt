-- Members that are put into an object, a few at a time.
use Rattle.std.specs.Prelude.{codes, map}
use Rattle.serde_json.specs.Data.{Members, array, boolean, put, string}
use Rattle.serde_json.specs.View.{items_of}
use Rattle.server_status.specs.declared.status.SessionStatus.{SessionStatus}
use Rattle.server_status.specs.declared.status.Status.{Status}
use Rattle.server_status.specs.declared.status.TransferStatus.{TransferStatus}
use Rattle.server_status.specs.StatusData.{account_data, count_data, count_if_data, direction_text, ends_data, group_data, held_data, line_data, peer_data, rate_data, session_data, sharers_text, text_data, text_if_data, transfer_data}

-- ---- of a transfer

-- its session, with who has it
abbrev pub owner_members : TransferStatus → Members → Members
owner_members transfer members =
    put (codes "peer") (peer_data transfer.peer)
    (put (codes "group") (text_if_data transfer.group)
    (put (codes "user") (text_data transfer.user)
    (put (codes "session") (count_data transfer.session) members)))

-- its file
abbrev pub file_members : TransferStatus → Members → Members
file_members transfer members =
    put (codes "size") (count_if_data transfer.size)
    (put (codes "path") (text_if_data transfer.path)
    (put (codes "direction") (string (direction_text transfer.direction)) members))

-- how far it is
abbrev pub course_members : TransferStatus → Members → Members
course_members transfer members =
    put (codes "held") (held_data transfer.rounds)
    (put (codes "moved") (count_data transfer.moved)
    (put (codes "granted") (count_data transfer.granted)
    (put (codes "waiting") (boolean transfer.is_waiting)
    (put (codes "begun") (count_data transfer.begun) members))))

-- its rates
abbrev pub rate_members : TransferStatus → Members → Members
rate_members transfer members =
    put (codes "user_rate") (rate_data transfer.user_rate)
    (put (codes "session_rate") (rate_data transfer.session_rate)
    (put (codes "guaranteed") (rate_data transfer.guaranteed) members))

-- ---- of a session

-- whose it is
abbrev pub client_of : SessionStatus → Members → Members
client_of session members =
    put (codes "peer") (peer_data session.peer)
    (put (codes "group") (text_if_data session.group)
    (put (codes "user") (text_if_data session.user)
    (put (codes "session") (count_data session.session) members)))

-- since when, and what is guaranteed to it
abbrev pub stay_of : SessionStatus → Members → Members
stay_of session members =
    put (codes "guaranteed_up") (rate_data session.guaranteed_up)
    (put (codes "guaranteed_down") (rate_data session.guaranteed_down)
    (put (codes "active") (count_data session.active)
    (put (codes "begun") (count_data session.begun) members)))

-- ---- of a status

-- the version and the moment
abbrev pub moment_members : Status → Members → Members
moment_members status members =
    put (codes "micros") (count_data status.micros)
    (put (codes "started") (count_data status.started)
    (put (codes "unit") (string (codes "octets"))
    (put (codes "version") (count_data 1) members)))

-- who is there
abbrev pub client_members : Status → Members → Members
client_members status members =
    put (codes "waits") (count_data status.waits)
    (put (codes "refused") (count_data status.refused)
    (put (codes "failed_logins") (count_data status.failed_logins)
    (put (codes "lanes") (count_data status.lanes)
    (put (codes "max_sessions") (count_data status.max_sessions)
    (put (codes "sessions") (count_data status.sessions)
    (put (codes "users") (count_data status.users) members))))))

-- the totals
abbrev pub total_members : Status → Members → Members
total_members status members =
    put (codes "endings") (ends_data status.endings)
    (put (codes "ended") (count_data status.ended)
    (put (codes "ended_moved") (count_data status.ended_moved)
    (put (codes "ended_granted") (count_data status.ended_granted)
    (put (codes "issued") (count_data status.issued) members))))

-- outcomes of logins, and the lines that were lost
abbrev pub login_members : Status → Members → Members
login_members status members =
    put (codes "lost_lines") (count_data status.lost_lines)
    (put (codes "refused_guarantees") (count_data status.refused_guarantees)
    (put (codes "refused_logins") (count_data status.refused_logins)
    (put (codes "logins") (count_data status.logins) members)))

-- guarantees in all, who is inside, and what users got
abbrev pub people_members : Status → Members → Members
people_members status members =
    put (codes "accounts") (array (items_of (map account_data status.accounts.items)))
    (put (codes "sessions_now") (array (items_of (map session_data status.sessions_now.items)))
    (put (codes "guaranteed_up") (rate_data status.guaranteed_up)
    (put (codes "guaranteed_down") (rate_data status.guaranteed_down) members)))

-- the rates of the line, and among whom it is shared
abbrev pub line_members : Status → Members → Members
line_members status members =
    put (codes "shared_among") (string (sharers_text status.shared_among))
    (put (codes "line") (line_data status.line) members)

-- the rounds, the groups and the transfers
abbrev pub part_members : Status → Members → Members
part_members status members =
    put (codes "transfers") (array (items_of (map transfer_data status.transfers.items)))
    (put (codes "groups") (array (items_of (map group_data status.groups.items)))
    (put (codes "held") (held_data status.rounds) members))
