-- The lines of a transfer.
use Rattle.std.specs.Prelude.{◌-◌, ◌/◌, ◌%◌, ◌&&◌, ℕ, Bool, List, Option, Some, None, [], String, ◌++◌, codes, if◌then◌else◌, min, nat_eq, not, string_bytes}
use Rattle.std.specs.Borrow.{Bor}
use Rattle.std.specs.Fmt.{decimal}
use Rattle.std.specs.List.{sum_by}
use Rattle.std.specs.Net.Text.{ipv4_text}
use Rattle.std.specs.Option.{option_map_or}
use Rattle.std.specs.Str.{bytes_eq}
use Rattle.std.specs.declared.alloc.Global.{Global}
use Rattle.server_status.specs.declared.status.SessionStatus.{SessionStatus}
use Rattle.server_status.specs.declared.status.Status.{Status}
use Rattle.server_status.specs.declared.status.TransferStatus.{TransferStatus}
use Rattle.status_table.specs.declared.held.Limit.{Limit}
use Rattle.status_table.specs.declared.held.Limit.TheVariants.{Server, Direction, Group, User, Session, Client}
use Rattle.status_table.specs.Cells.{amount, limit_text, percent, right, shown_text}
use Rattle.status_table.specs.Held.{held_text, holder_of, limit_name, same_limit, way_text}
use Rattle.status_table.specs.Rates.{most, rate_since, rounds_since, same_way}
use Rattle.status_table.specs.Widths.{left, tail}

-- the lesser of two limits; 0 is none
abbrev pub lesser : ℕ → ℕ → ℕ
lesser one other =
    if nat_eq one 0 then other else if nat_eq other 0 then one else min one other

abbrev pub name_cell : ℕ → Option (String Global) → List ℕ
name_cell width None = left width (codes "-")
name_cell width (Some name) = left width (shown_text (string_bytes name))

-- the session, the user, the group, the address and the direction
abbrev pub whom_cells : TransferStatus → List ℕ
whom_cells t =
    left 7 (codes "#" ++ decimal t.session) ++ left 11 (shown_text (string_bytes t.user))
    ++ name_cell 9 t.group ++ left 16 (ipv4_text t.peer) ++ left 5 (way_text t.direction)

-- The first line: whose transfer it is, its rates since two earlier statuses, what is guaranteed to
-- it, and the lesser limit of its session and its user.
abbrev pub rate_line : Option (Bor Status) → Option (Bor Status) → Status → TransferStatus → List ℕ
rate_line earlier before now t =
    whom_cells t ++ right 8 (amount (rate_since before now t))
    ++ right 8 (amount (rate_since earlier now t)) ++ right 8 (limit_text t.guaranteed)
    ++ right 8 (limit_text (lesser t.session_rate t.user_rate))

-- how much of it is done: in per cent, or in octets if its size is not known
abbrev pub done_text : TransferStatus → List ℕ
done_text t =
    option_map_or (λ size. decimal (percent t.moved size) ++ codes "%") t.size (amount t.moved)

-- the path, shortened from the left; a listing has none
abbrev pub path_text : Option (String Global) → List ℕ
path_text None = codes "a listing"
path_text (Some path) = tail 28 (shown_text (string_bytes path))

-- The second line: what held it back since an earlier status, how much of it is done, and its file.
abbrev pub held_line : Option (Bor Status) → TransferStatus → List ℕ
held_line before t =
    codes "       " ++ left 36 (held_text before t) ++ right 7 (done_text t) ++ codes "  "
    ++ path_text t.path

-- ---- users

-- a transfer of the same user in the same direction
abbrev pub is_mate : TransferStatus → TransferStatus → Bool
is_mate t other =
    same_way t.direction other.direction && bytes_eq (string_bytes t.user) (string_bytes other.user)

-- their rates together
abbrev pub mates_rate : Option (Bor Status) → Status → TransferStatus → ℕ
mates_rate before now t =
    min (sum_by (λ other. if is_mate t other then rate_since before now other else 0)
    now.transfers.items) most

-- a transfer of these that runs, which this limit holds back in most of its rounds
abbrev pub is_held_by : Option (Bor Status) → Limit → TransferStatus → TransferStatus → Bool
is_held_by before limit t other =
    is_mate t other && not other.is_waiting
    && same_limit limit (holder_of (rounds_since before other))

abbrev pub number_of : (TransferStatus → Bool) → List TransferStatus → ℕ
number_of test all = sum_by (λ other. if test other then 1 else 0) all

-- a number with its name; nothing for none
abbrev pub some_text : List ℕ → ℕ → List ℕ
some_text name n = if nat_eq n 0 then [] else name ++ codes " " ++ decimal n ++ codes "  "

unfoldable pub held_number : Option (Bor Status) → Status → TransferStatus → Limit → List ℕ
held_number before now t limit =
    some_text (limit_name limit t) (number_of (is_held_by before limit t) now.transfers.items)

abbrev pub is_late : TransferStatus → TransferStatus → Bool
is_late t other = is_mate t other && other.is_waiting

-- how many of them wait for a lane
unfoldable pub late_text : Status → TransferStatus → List ℕ
late_text now t = some_text (codes "waiting") (number_of (is_late t) now.transfers.items)

-- how many of them a limit of several holds back, and one of their own or none
abbrev pub outer_numbers : Option (Bor Status) → Status → TransferStatus → List ℕ
outer_numbers before now t =
    held_number before now t Server ++ held_number before now t Direction
    ++ held_number before now t Group

abbrev pub inner_numbers : Option (Bor Status) → Status → TransferStatus → List ℕ
inner_numbers before now t =
    held_number before now t User ++ held_number before now t Session
    ++ held_number before now t Client

-- how many of them wait for a lane, and how many each limit holds back
abbrev pub held_numbers : Option (Bor Status) → Status → TransferStatus → List ℕ
held_numbers before now t =
    late_text now t ++ outer_numbers before now t ++ inner_numbers before now t

-- The transfers of a user in a direction together: the user, the group, the direction, how many
-- they are, what they get, and what holds them back.
abbrev pub user_line : Option (Bor Status) → Status → TransferStatus → List ℕ
user_line before now t =
    left 11 (shown_text (string_bytes t.user)) ++ name_cell 9 t.group
    ++ left 5 (way_text t.direction)
    ++ right 5 (decimal (number_of (is_mate t) now.transfers.items))
    ++ right 9 (amount (mates_rate before now t)) ++ codes "  " ++ held_numbers before now t

-- ---- idle sessions

-- a colon, and a number of minutes or seconds, of which 60 are the next
abbrev pub sixty : ℕ → List ℕ
sixty n = codes ":" ++ decimal (n / 10 % 6) ++ decimal (n % 10)

-- a time in hours, minutes and seconds
abbrev pub clock_text : ℕ → List ℕ
clock_text micros =
    (decimal (micros / 3600000000) ++ sixty (micros / 60000000)) ++ sixty (micros / 1000000)

-- the session, the user, the address, how long it is there and idle, and what is guaranteed to it
abbrev pub session_line : Status → SessionStatus → List ℕ
session_line now s =
    left 7 (codes "#" ++ decimal s.session) ++ name_cell 11 s.user ++ left 16 (ipv4_text s.peer)
    ++ right 10 (clock_text (now.micros - s.begun)) ++ right 10 (clock_text (now.micros - s.active))
    ++ right 9 (limit_text s.guaranteed_down) ++ right 9 (limit_text s.guaranteed_up)
