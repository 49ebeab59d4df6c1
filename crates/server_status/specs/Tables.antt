-- The members of a status and of its records, in the order in which they are judged.
use Rattle.std.specs.Prelude.{ℕ, List, [], ◌∷◌, None, Some, codes}
use Rattle.server_status.specs.declared.member.Kind.{Kind}
use Rattle.server_status.specs.declared.member.Kind.TheVariants.{Address, Direction, Flag, List as Many, Number, NumberOrNull, Sharers, Text, TextOrNull, Unit as Octets}
use Rattle.server_status.specs.Fits.{MemberRow}

-- a member of the record itself
abbrev pub own : List ℕ → List ℕ → Kind → MemberRow
own reported name kind = record { reported = reported; within = None; name = name; kind = kind }

-- a member of an object within it
abbrev pub inner : List ℕ → List ℕ → List ℕ → Kind → MemberRow
inner reported within name kind =
    record { reported = reported; within = Some within; name = name; kind = kind }

-- the version, which is judged before all others
abbrev pub version_rows : List MemberRow
version_rows =
    own (codes "version") (codes "version") Number
    ∷ []

-- of a status
abbrev pub status_rows : List MemberRow
status_rows =
    own (codes "unit") (codes "unit") Octets
    ∷ own (codes "started") (codes "started") Number
    ∷ own (codes "micros") (codes "micros") Number
    ∷ own (codes "users") (codes "users") Number
    ∷ own (codes "sessions") (codes "sessions") Number
    ∷ own (codes "max_sessions") (codes "max_sessions") Number
    ∷ own (codes "lanes") (codes "lanes") Number
    ∷ own (codes "failed_logins") (codes "failed_logins") Number
    ∷ own (codes "refused") (codes "refused") Number
    ∷ own (codes "waits") (codes "waits") Number
    ∷ own (codes "issued") (codes "issued") Number
    ∷ own (codes "ended_granted") (codes "ended_granted") Number
    ∷ own (codes "ended_moved") (codes "ended_moved") Number
    ∷ own (codes "ended") (codes "ended") Number
    ∷ inner (codes "line.both") (codes "line") (codes "both") NumberOrNull
    ∷ inner (codes "line.down") (codes "line") (codes "down") NumberOrNull
    ∷ inner (codes "line.up") (codes "line") (codes "up") NumberOrNull
    ∷ own (codes "shared_among") (codes "shared_among") Sharers
    ∷ inner (codes "held.server") (codes "held") (codes "server") Number
    ∷ inner (codes "held.direction") (codes "held") (codes "direction") Number
    ∷ inner (codes "held.group") (codes "held") (codes "group") Number
    ∷ inner (codes "held.user") (codes "held") (codes "user") Number
    ∷ inner (codes "held.session") (codes "held") (codes "session") Number
    ∷ inner (codes "held.nothing") (codes "held") (codes "nothing") Number
    ∷ own (codes "guaranteed_down") (codes "guaranteed_down") NumberOrNull
    ∷ own (codes "guaranteed_up") (codes "guaranteed_up") NumberOrNull
    ∷ own (codes "logins") (codes "logins") Number
    ∷ own (codes "refused_logins") (codes "refused_logins") Number
    ∷ own (codes "refused_guarantees") (codes "refused_guarantees") Number
    ∷ own (codes "lost_lines") (codes "lost_lines") Number
    ∷ inner (codes "endings.whole") (codes "endings") (codes "whole") Number
    ∷ inner (codes "endings.aborted") (codes "endings") (codes "aborted") Number
    ∷ inner (codes "endings.unconnected") (codes "endings") (codes "unconnected") Number
    ∷ inner (codes "endings.lost") (codes "endings") (codes "lost") Number
    ∷ inner (codes "endings.file") (codes "endings") (codes "file") Number
    ∷ inner (codes "endings.memory") (codes "endings") (codes "memory") Number
    ∷ inner (codes "endings.owner") (codes "endings") (codes "owner") Number
    ∷ own (codes "groups") (codes "groups") Many
    ∷ own (codes "transfers") (codes "transfers") Many
    ∷ own (codes "sessions_now") (codes "sessions_now") Many
    ∷ own (codes "accounts") (codes "accounts") Many
    ∷ []

-- of a group
abbrev pub group_rows : List MemberRow
group_rows =
    own (codes "groups[].name") (codes "name") Text
    ∷ own (codes "groups[].down") (codes "down") NumberOrNull
    ∷ own (codes "groups[].up") (codes "up") NumberOrNull
    ∷ own (codes "groups[].guaranteed_down") (codes "guaranteed_down") NumberOrNull
    ∷ own (codes "groups[].guaranteed_up") (codes "guaranteed_up") NumberOrNull
    ∷ []

-- of a session
abbrev pub session_rows : List MemberRow
session_rows =
    own (codes "sessions_now[].session") (codes "session") Number
    ∷ own (codes "sessions_now[].user") (codes "user") TextOrNull
    ∷ own (codes "sessions_now[].group") (codes "group") TextOrNull
    ∷ own (codes "sessions_now[].peer") (codes "peer") Address
    ∷ own (codes "sessions_now[].begun") (codes "begun") Number
    ∷ own (codes "sessions_now[].active") (codes "active") Number
    ∷ own (codes "sessions_now[].guaranteed_down") (codes "guaranteed_down") NumberOrNull
    ∷ own (codes "sessions_now[].guaranteed_up") (codes "guaranteed_up") NumberOrNull
    ∷ []

-- of an account
abbrev pub account_rows : List MemberRow
account_rows =
    own (codes "accounts[].user") (codes "user") Text
    ∷ own (codes "accounts[].group") (codes "group") TextOrNull
    ∷ own (codes "accounts[].granted_down") (codes "granted_down") Number
    ∷ own (codes "accounts[].granted_up") (codes "granted_up") Number
    ∷ own (codes "accounts[].unmet_down") (codes "unmet_down") Number
    ∷ own (codes "accounts[].unmet_up") (codes "unmet_up") Number
    ∷ []

-- of a transfer
abbrev pub transfer_rows : List MemberRow
transfer_rows =
    own (codes "transfers[].session") (codes "session") Number
    ∷ own (codes "transfers[].user") (codes "user") Text
    ∷ own (codes "transfers[].group") (codes "group") TextOrNull
    ∷ own (codes "transfers[].peer") (codes "peer") Address
    ∷ own (codes "transfers[].direction") (codes "direction") Direction
    ∷ own (codes "transfers[].path") (codes "path") TextOrNull
    ∷ own (codes "transfers[].size") (codes "size") NumberOrNull
    ∷ own (codes "transfers[].begun") (codes "begun") Number
    ∷ own (codes "transfers[].waiting") (codes "waiting") Flag
    ∷ own (codes "transfers[].granted") (codes "granted") Number
    ∷ own (codes "transfers[].moved") (codes "moved") Number
    ∷ inner (codes "transfers[].held.server") (codes "held") (codes "server") Number
    ∷ inner (codes "transfers[].held.direction") (codes "held") (codes "direction") Number
    ∷ inner (codes "transfers[].held.group") (codes "held") (codes "group") Number
    ∷ inner (codes "transfers[].held.user") (codes "held") (codes "user") Number
    ∷ inner (codes "transfers[].held.session") (codes "held") (codes "session") Number
    ∷ inner (codes "transfers[].held.nothing") (codes "held") (codes "nothing") Number
    ∷ own (codes "transfers[].guaranteed") (codes "guaranteed") NumberOrNull
    ∷ own (codes "transfers[].session_rate") (codes "session_rate") NumberOrNull
    ∷ own (codes "transfers[].user_rate") (codes "user_rate") NumberOrNull
    ∷ []
