-- The table of the transfers of a server, as a screen of lines.
use Rattle.std.specs.Prelude.{◌≡◌, ◌≤◌, ◌+◌, ◌-◌, ◌*◌, ℕ, Bool, List, Option, Some, None, [], ◌∷◌, ◌++◌, All, codes, encode_utf8_all, if◌then◌else◌, length, map, min, nat_le, nat_lt, string_bytes, take, String, Vec}
use Rattle.std.specs.Borrow.{Bor}
use Rattle.std.specs.Fmt.{decimal}
use Rattle.std.specs.declared.alloc.Global.{Global}
use Rattle.std.specs.List.{flat_map, list_any}
use Rattle.std.specs.List.Sorted.{IsNonDecreasingBy, IsPermutation}
use Rattle.server_status.specs.declared.status.Direction.TheVariants.{Down, Up}
use Rattle.server_status.specs.declared.status.GroupStatus.{GroupStatus}
use Rattle.server_status.specs.declared.status.SessionStatus.{SessionStatus}
use Rattle.server_status.specs.declared.status.SharedAmong.{SharedAmong}
use Rattle.server_status.specs.declared.status.SharedAmong.TheVariants.{Sessions, Users}
use Rattle.server_status.specs.declared.status.Status.{Status}
use Rattle.server_status.specs.declared.status.TransferStatus.{TransferStatus}
use Rattle.status_table.specs.Heads.{group_line, head_line, idle_line, totals_line}
use Rattle.status_table.specs.Held.{level_line, lowest}
use Rattle.status_table.specs.Lines.{held_line, is_mate, rate_line, session_line, user_line}
use Rattle.status_table.specs.Rates.{idle_sessions, rank}
use Rattle.status_table.specs.Widths.{line_front, width}
use Rattle.status_table.specs.declared.table.TheConstants.{COLUMNS}

-- A line as the screen has it: as much of it as is at most `COLUMNS` wide, with a question mark for
-- each character that a screen does not show, and its end.
abbrev pub ended : List ℕ → List ℕ
ended line = encode_utf8_all (line_front COLUMNS line) ++ 10 ∷ []

-- no line is wider than the screen
abbrev pub AreNarrow : List (List ℕ) → Type 0
AreNarrow lines = All (λ line. width (line_front COLUMNS line) ≤ COLUMNS) lines

-- lines, one after another
abbrev pub joined : List (List ℕ) → List ℕ
joined lines = flat_map ended lines

-- the texts of lines
abbrev pub texts : Vec (String Global) Global → List (List ℕ)
texts lines = map string_bytes lines.items

-- ---- above the transfers

-- a line that says so if the line is shared among users
abbrev pub sharers_lines : SharedAmong → List (List ℕ)
sharers_lines Sessions = []
sharers_lines Users = codes "shared among users" ∷ []

-- the line of the tightest limit that transfers of a direction share, if there is one
abbrev pub level_lines : Option (Bor Status) → Status → Option (Bor TransferStatus) → List (List ℕ)
level_lines before now None = []
level_lines before now (Some t) = level_line before now t.now ∷ []

abbrev pub top_lines : Option (Bor Status) → Status → List (Bor TransferStatus) → List (List ℕ)
top_lines before now shown =
    head_line now ∷ totals_line before now ∷ idle_line now
    ∷ sharers_lines now.shared_among
    ++ level_lines before now (lowest before Down shown)
    ++ level_lines before now (lowest before Up shown)

-- ---- each transfer

-- the names of the columns
abbrev pub names_lines : List (List ℕ)
names_lines =
    codes "       user       group    from            way       1 s    10 s   least    most"
    ∷ codes "       held by, parts of the rounds of 1 s    done  file" ∷ []

-- the two lines of a transfer
abbrev pub entry_lines : Option (Bor Status) → Option (Bor Status) → Status → TransferStatus
    → List (List ℕ)
entry_lines earlier before now t = rate_line earlier before now t ∷ held_line before t ∷ []

abbrev pub entries : Option (Bor Status) → Option (Bor Status) → Status → List (Bor TransferStatus)
    → List (List ℕ)
entries earlier before now shown = flat_map (λ t. entry_lines earlier before now t.now) shown

-- ---- users

-- the names of the columns
abbrev pub user_names : List ℕ
user_names = codes "user       group    way     no      1 s  held by, number of transfers"

-- there is one of the same user and direction
abbrev pub has_mate : List (Bor TransferStatus) → TransferStatus → Bool
has_mate seen t = list_any (λ other. is_mate t other.now) seen

-- the first transfer of each user and direction, after some
abbrev pub firsts_after : List (Bor TransferStatus) → List (Bor TransferStatus)
    → List (Bor TransferStatus)
firsts_after seen [] = []
firsts_after seen (t ∷ ts) =
    if has_mate seen t.now then firsts_after (seen ++ t ∷ []) ts
    else t ∷ firsts_after (seen ++ t ∷ []) ts

abbrev pub firsts : List (Bor TransferStatus) → List (Bor TransferStatus)
firsts shown = firsts_after [] shown

-- ---- idle sessions

abbrev pub session_names : List ℕ
session_names = codes "idle   user       from                inside      idle     down       up"

-- lines below these names, if there are some
abbrev pub headed : List (List ℕ) → List (List ℕ)
headed [] = []
headed (line ∷ lines) = session_names ∷ line ∷ lines

-- the idle sessions that that number of lines has room for, below their head
abbrev pub session_lines : Status → ℕ → List (List ℕ)
session_lines now space =
    if nat_lt space 2 then []
    else headed (map (session_line now) (take (space - 1) (idle_sessions now)))

-- ---- what fits

-- all transfers and groups fit into that number of lines, below the names of the columns
abbrev pub all_fit : ℕ → ℕ → ℕ → Bool
all_fit space transfers groups = nat_le (2 + transfers * 2 + groups) space

-- Number of the users that are shown, and of the groups. If not all fit, one line is kept for the
-- numbers of those that are not shown.
abbrev pub users_fit : ℕ → ℕ → ℕ → Bool
users_fit space users groups = nat_le (1 + users + groups) space

abbrev pub shown_users : ℕ → ℕ → ℕ → ℕ
shown_users space users groups =
    if users_fit space users groups then users else min users (space - 2)

abbrev pub shown_groups : ℕ → ℕ → ℕ → ℕ
shown_groups space users groups =
    if users_fit space users groups then groups
    else min groups (space - 2 - min users (space - 2))

-- the numbers of those that are not shown
abbrev pub rest_line : ℕ → ℕ → List ℕ
rest_line users groups =
    decimal users
    ++ (codes " users and " ++ (decimal groups ++ codes " groups are not shown"))

abbrev pub rest_lines : ℕ → ℕ → ℕ → List (List ℕ)
rest_lines space users groups =
    if users_fit space users groups then []
    else rest_line (users - shown_users space users groups)
    (groups - shown_groups space users groups) ∷ []

abbrev pub group_lines : Option (Bor Status) → Status → ℕ → List (List ℕ)
group_lines before now count = map (group_line before now) (take count now.groups.items)

-- each transfer, each group, and idle sessions
abbrev pub whole_lines : Option (Bor Status) → Option (Bor Status) → Status
    → List (Bor TransferStatus) → ℕ → List (List ℕ)
whole_lines earlier before now shown space =
    names_lines ++ entries earlier before now shown
    ++ group_lines before now (length now.groups.items)
    ++ session_lines now (space - (2 + length shown * 2 + length now.groups.items))

-- users, each with the sum of their transfers, and groups
abbrev pub summed_lines : Option (Bor Status) → Status → List (Bor TransferStatus) → ℕ
    → List (List ℕ)
summed_lines before now users space =
    user_names
    ∷ map (λ t. user_line before now t.now)
    (take (shown_users space (length users) (length now.groups.items)) users)
    ++ group_lines before now (shown_groups space (length users) (length now.groups.items))
    ++ rest_lines space (length users) (length now.groups.items)

-- transfers and groups in that number of lines: users, if there are more transfers
abbrev pub body_lines : Option (Bor Status) → Option (Bor Status) → Status
    → List (Bor TransferStatus) → ℕ → List (List ℕ)
body_lines earlier before now shown space =
    if all_fit space (length shown) (length now.groups.items)
    then whole_lines earlier before now shown space
    else summed_lines before now (firsts shown) space

-- the lines of a screen of `rows` lines
abbrev pub screen_lines : Option (Bor Status) → Option (Bor Status) → Status
    → List (Bor TransferStatus) → ℕ → List (List ℕ)
screen_lines earlier before now shown rows =
    top_lines before now shown
    ++ body_lines earlier before now shown (rows - length (top_lines before now shown))

-- ---- the table

-- The text is the table, in at most `rows` lines: the transfers of the status, first those that
-- wait for a lane, then the highest rate since the status before, and for one rate the lowest
-- number of a session.
pub record IsTable (earlier before : Option (Bor Status)) (now : Status) (rows : ℕ)
    (text : List ℕ) : Type 0 where
  pub shown : List (Bor TransferStatus)
  pub all : IsPermutation now.transfers.items (map (λ t. t.now) shown)
  pub ordered : IsNonDecreasingBy (λ t. rank before now t.now) shown
  pub narrow : AreNarrow (take rows (screen_lines earlier before now shown rows))
  pub few : length (take rows (screen_lines earlier before now shown rows)) ≤ rows
  pub lines : text ≡ joined (take rows (screen_lines earlier before now shown rows))
