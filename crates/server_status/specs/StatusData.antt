-- A status as JSON: a value, whose members docs/status.md describes.
use Rattle.std.specs.Prelude.{◌≡◌, ◌++◌, ℕ, List, [], ◌∷◌, Option, Some, None, String, IsUtf8, codes, if◌then◌else◌, map, nat_eq, string_bytes}
use Rattle.std.specs.declared.alloc.Global.{Global}
use Rattle.std.specs.Net.Text.{ipv4_text}
use Rattle.serde_json.specs.Data.{Data, array, boolean, member, no_members, null, number, object, string, unsigned}
use Rattle.serde_json.specs.Read.{read}
use Rattle.serde_json.specs.View.{items_of}
use Rattle.server_status.specs.declared.status.AccountStatus.{AccountStatus}
use Rattle.server_status.specs.declared.status.Direction.{Direction}
use Rattle.server_status.specs.declared.status.Direction.TheVariants.{Down, Up}
use Rattle.server_status.specs.declared.status.EndCounts.{EndCounts}
use Rattle.server_status.specs.declared.status.GroupStatus.{GroupStatus}
use Rattle.server_status.specs.declared.status.HeldRounds.{HeldRounds}
use Rattle.server_status.specs.declared.status.LineRates.{LineRates}
use Rattle.server_status.specs.declared.status.SessionStatus.{SessionStatus}
use Rattle.server_status.specs.declared.status.SharedAmong.{SharedAmong}
use Rattle.server_status.specs.declared.status.SharedAmong.TheVariants.{Sessions, Users}
use Rattle.server_status.specs.declared.status.Status.{Status}
use Rattle.server_status.specs.declared.status.TransferStatus.{TransferStatus}

-- ---- values

abbrev pub count_data : ℕ → Data
count_data n = number (unsigned n)

-- a rate; 0 is none
abbrev pub rate_data : ℕ → Data
rate_data rate = if nat_eq rate 0 then null else count_data rate

abbrev pub text_data : String Global → Data
text_data text = string (string_bytes text)

-- a text, if there is one
abbrev pub text_if_data : Option (String Global) → Data
text_if_data None = null
text_if_data (Some text) = text_data text

-- a number, if it is known
abbrev pub count_if_data : Option ℕ → Data
count_if_data None = null
count_if_data (Some n) = count_data n

abbrev pub direction_text : Direction → List ℕ
direction_text Down = codes "down"
direction_text Up = codes "up"

-- among whom a line is shared
abbrev pub sharers_text : SharedAmong → List ℕ
sharers_text Sessions = codes "sessions"
sharers_text Users = codes "users"

-- four octets, as a dotted text
abbrev pub peer_data : List ℕ → Data
peer_data octets = string (ipv4_text octets)

-- ---- records

-- numbers of rounds, by what held a transfer back in them
abbrev pub held_data : HeldRounds → Data
held_data rounds =
    object
    (member (codes "direction") (count_data rounds.direction)
    (member (codes "group") (count_data rounds.group)
    (member (codes "nothing") (count_data rounds.nothing)
    (member (codes "server") (count_data rounds.server)
    (member (codes "session") (count_data rounds.session)
    (member (codes "user") (count_data rounds.user) no_members))))))

-- numbers of transfers that have ended, by how they did
abbrev pub ends_data : EndCounts → Data
ends_data ends =
    object
    (member (codes "aborted") (count_data ends.aborted)
    (member (codes "file") (count_data ends.file)
    (member (codes "lost") (count_data ends.lost)
    (member (codes "memory") (count_data ends.memory)
    (member (codes "owner") (count_data ends.owner)
    (member (codes "unconnected") (count_data ends.unconnected)
    (member (codes "whole") (count_data ends.whole) no_members)))))))

abbrev pub line_data : LineRates → Data
line_data line =
    object
    (member (codes "both") (rate_data line.both)
    (member (codes "down") (rate_data line.down)
    (member (codes "up") (rate_data line.up) no_members)))

abbrev pub group_data : GroupStatus → Data
group_data group =
    object
    (member (codes "down") (rate_data group.down)
    (member (codes "guaranteed_down") (rate_data group.guaranteed_down)
    (member (codes "guaranteed_up") (rate_data group.guaranteed_up)
    (member (codes "name") (text_data group.name)
    (member (codes "up") (rate_data group.up) no_members)))))

abbrev pub session_data : SessionStatus → Data
session_data session =
    object
    (member (codes "active") (count_data session.active)
    (member (codes "begun") (count_data session.begun)
    (member (codes "group") (text_if_data session.group)
    (member (codes "guaranteed_down") (rate_data session.guaranteed_down)
    (member (codes "guaranteed_up") (rate_data session.guaranteed_up)
    (member (codes "peer") (peer_data session.peer)
    (member (codes "session") (count_data session.session)
    (member (codes "user") (text_if_data session.user) no_members))))))))

abbrev pub account_data : AccountStatus → Data
account_data account =
    object
    (member (codes "granted_down") (count_data account.granted_down)
    (member (codes "granted_up") (count_data account.granted_up)
    (member (codes "group") (text_if_data account.group)
    (member (codes "unmet_down") (count_data account.unmet_down)
    (member (codes "unmet_up") (count_data account.unmet_up)
    (member (codes "user") (text_data account.user) no_members))))))

abbrev pub transfer_data : TransferStatus → Data
transfer_data transfer =
    object
    (member (codes "begun") (count_data transfer.begun)
    (member (codes "direction") (string (direction_text transfer.direction))
    (member (codes "granted") (count_data transfer.granted)
    (member (codes "group") (text_if_data transfer.group)
    (member (codes "guaranteed") (rate_data transfer.guaranteed)
    (member (codes "held") (held_data transfer.rounds)
    (member (codes "moved") (count_data transfer.moved)
    (member (codes "path") (text_if_data transfer.path)
    (member (codes "peer") (peer_data transfer.peer)
    (member (codes "session") (count_data transfer.session)
    (member (codes "session_rate") (rate_data transfer.session_rate)
    (member (codes "size") (count_if_data transfer.size)
    (member (codes "user") (text_data transfer.user)
    (member (codes "user_rate") (rate_data transfer.user_rate)
    (member (codes "waiting") (boolean transfer.is_waiting) no_members)))))))))))))))

-- the whole, in the unit of all its rates and numbers of octets, and the version of this form
abbrev pub status_data : Status → Data
status_data status =
    object
    (member (codes "accounts") (array (items_of (map account_data status.accounts.items)))
    (member (codes "ended") (count_data status.ended)
    (member (codes "ended_granted") (count_data status.ended_granted)
    (member (codes "ended_moved") (count_data status.ended_moved)
    (member (codes "endings") (ends_data status.endings)
    (member (codes "failed_logins") (count_data status.failed_logins)
    (member (codes "groups") (array (items_of (map group_data status.groups.items)))
    (member (codes "guaranteed_down") (rate_data status.guaranteed_down)
    (member (codes "guaranteed_up") (rate_data status.guaranteed_up)
    (member (codes "held") (held_data status.rounds)
    (member (codes "issued") (count_data status.issued)
    (member (codes "lanes") (count_data status.lanes)
    (member (codes "line") (line_data status.line)
    (member (codes "logins") (count_data status.logins)
    (member (codes "lost_lines") (count_data status.lost_lines)
    (member (codes "max_sessions") (count_data status.max_sessions)
    (member (codes "micros") (count_data status.micros)
    (member (codes "refused") (count_data status.refused)
    (member (codes "refused_guarantees") (count_data status.refused_guarantees)
    (member (codes "refused_logins") (count_data status.refused_logins)
    (member (codes "sessions") (count_data status.sessions)
    (member (codes "sessions_now") (array (items_of (map session_data status.sessions_now.items)))
    (member (codes "shared_among") (string (sharers_text status.shared_among))
    (member (codes "started") (count_data status.started)
    (member (codes "transfers") (array (items_of (map transfer_data status.transfers.items)))
    (member (codes "unit") (string (codes "octets"))
    (member (codes "users") (count_data status.users)
    (member (codes "version") (count_data 1)
    (member (codes "waits") (count_data status.waits) no_members)))))))))))))))))))))))))))))

-- ---- texts

-- a text of JSON that has the status, and a line feed
pub record IsStatusText (status : Status) (text : List ℕ) : Type 0 where
  pub json : List ℕ
  pub ends : text ≡ json ++ 10 ∷ []
  pub utf8 : IsUtf8 json
  pub reads : read json ≡ Some (status_data status)
