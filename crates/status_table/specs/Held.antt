-- The limits that hold a transfer back, in parts of its rounds.
use Rattle.std.specs.Prelude.{◌+◌, ◌*◌, ◌&&◌, ℕ, Bool, List, Option, Some, None, [], ◌++◌, codes, is_some, if◌then◌else◌, nat_eq, nat_le, nat_lt, string_bytes}
use Rattle.std.specs.Borrow.{Bor}
use Rattle.std.specs.Fmt.{decimal}
use Rattle.std.specs.List.{fold}
use Rattle.std.specs.Option.{option_map_or}
use Rattle.server_status.specs.declared.status.Direction.{Direction as Way}
use Rattle.server_status.specs.declared.status.Direction.TheVariants.{Down, Up}
use Rattle.server_status.specs.declared.status.HeldRounds.{HeldRounds}
use Rattle.server_status.specs.declared.status.Status.{Status}
use Rattle.server_status.specs.declared.status.TransferStatus.{TransferStatus}
use Rattle.status_table.specs.declared.held.Limit.{Limit}
use Rattle.status_table.specs.declared.held.Limit.TheVariants.{Server, Direction, Group, User, Session, Client}
use Rattle.status_table.specs.Cells.{amount, percent, shown_text}
use Rattle.status_table.specs.Rates.{is_way, rate_since, rounds_since}

abbrev pub total_rounds : HeldRounds → ℕ
total_rounds r = r.server + r.direction + r.group + r.user + r.session + r.nothing

abbrev pub way_text : Way → List ℕ
way_text Down = codes "down"
way_text Up = codes "up"

-- a name, and a direction
abbrev pub named_way : List ℕ → List ℕ → Way → List ℕ
named_way kind name way = kind ++ shown_text name ++ codes " " ++ way_text way

-- The limit that holds a transfer back, by the name that a plan gives it; the client if none does.
abbrev pub limit_name : Limit → TransferStatus → List ℕ
limit_name Server t = codes "server"
limit_name Direction t = codes "server " ++ way_text t.direction
limit_name Group t =
    named_way (codes "group ") (option_map_or (λ name. string_bytes name) t.group []) t.direction
limit_name User t = named_way (codes "user ") (string_bytes t.user) t.direction
limit_name Session t = codes "session " ++ way_text t.direction
limit_name Client t = codes "client"

-- the rounds in which it did
abbrev pub rounds_by : Limit → HeldRounds → ℕ
rounds_by Server r = r.server
rounds_by Direction r = r.direction
rounds_by Group r = r.group
rounds_by User r = r.user
rounds_by Session r = r.session
rounds_by Client r = r.nothing

-- a limit and its part of the rounds; nothing if it has none
abbrev pub part_text : Limit → TransferStatus → HeldRounds → List ℕ
part_text limit t r =
    if nat_eq (rounds_by limit r) 0 then []
    else limit_name limit t ++ codes " " ++ decimal (percent (rounds_by limit r) (total_rounds r))
    ++ codes "% "

-- each limit with its part
abbrev pub parts_text : TransferStatus → HeldRounds → List ℕ
parts_text t r =
    part_text Server t r ++ part_text Direction t r ++ part_text Group t r ++ part_text User t r
    ++ part_text Session t r ++ part_text Client t r

abbrev pub held_text : Option (Bor Status) → TransferStatus → List ℕ
held_text past t =
    if t.is_waiting then codes "waits for a lane" else parts_text t (rounds_since past t)

-- ---- the tightest limit that transfers share

-- more than half of the rounds
abbrev pub is_most : ℕ → HeldRounds → Bool
is_most part r = nat_lt (total_rounds r) (part * 2)

-- the limit of several transfers that held this one back in most of its rounds, if there is one
abbrev pub shared_of : HeldRounds → Option Limit
shared_of r =
    if is_most r.server r then Some Server
    else if is_most r.direction r then Some Direction
    else if is_most r.group r then Some Group
    else None

-- a transfer of this direction that such a limit holds back
abbrev pub is_shared : Option (Bor Status) → Way → TransferStatus → Bool
is_shared past way t = is_way way t && is_some (shared_of (rounds_since past t))

abbrev pub level_text : ℕ → Option Limit → TransferStatus → List ℕ
level_text rate None t = []
level_text rate (Some limit) t =
    codes "level " ++ way_text t.direction ++ codes " " ++ amount rate ++ codes " a second: "
    ++ limit_name limit t

-- The tightest limit that transfers of a direction share, and the rate that it leaves to each: that
-- of the last transfer of some, in their order, that such a limit holds back.
abbrev pub level_line : Option (Bor Status) → Status → TransferStatus → List ℕ
level_line past now t =
    level_text (rate_since past now t) (shared_of (rounds_since past t)) t

abbrev pub later : {X : Type 0} → (X → Bool) → Option X → X → Option X
later test last x = if test x then Some x else last

-- the last element with a property
abbrev pub last_with : {X : Type 0} → (X → Bool) → List X → Option X
last_with test xs = fold (later test) None xs

abbrev pub lowest : Option (Bor Status) → Way → List (Bor TransferStatus)
    → Option (Bor TransferStatus)
lowest past way shown = last_with (λ t. is_shared past way t.now) shown

-- ---- the limit that holds most

-- this limit has rounds, and no other one has more
abbrev pub is_first : Limit → HeldRounds → Bool
is_first limit r =
    nat_lt 0 (rounds_by limit r) && nat_le r.server (rounds_by limit r)
    && nat_le r.direction (rounds_by limit r) && nat_le r.group (rounds_by limit r)
    && nat_le r.user (rounds_by limit r) && nat_le r.session (rounds_by limit r)
    && nat_le r.nothing (rounds_by limit r)

-- the limit that held a transfer back in most of its rounds; of several the outermost
abbrev pub holder_of : HeldRounds → Limit
holder_of r =
    if is_first Server r then Server
    else if is_first Direction r then Direction
    else if is_first Group r then Group
    else if is_first User r then User
    else if is_first Session r then Session
    else Client

abbrev pub place_of : Limit → ℕ
place_of Server = 0
place_of Direction = 1
place_of Group = 2
place_of User = 3
place_of Session = 4
place_of Client = 5

abbrev pub same_limit : Limit → Limit → Bool
same_limit one other = nat_eq (place_of one) (place_of other)
