-- The head of a table, and the lines of groups.
use Rattle.std.specs.Prelude.{◌*◌, ◌/◌, ◌%◌, ℕ, Bool, List, Option, ◌++◌, codes, if◌then◌else◌, length, nat_eq, nat_le, string_bytes}
use Rattle.std.specs.Borrow.{Bor}
use Rattle.std.specs.Fmt.{decimal}
use Rattle.server_status.specs.declared.status.Direction.TheVariants.{Down, Up}
use Rattle.server_status.specs.declared.status.GroupStatus.{GroupStatus}
use Rattle.server_status.specs.declared.status.Status.{Status}
use Rattle.status_table.specs.Cells.{amount, limit_text, shown_text}
use Rattle.status_table.specs.Rates.{both_total, group_total, idle_sessions, line_total, waiting}
use Rattle.status_table.specs.Widths.{left}

-- hours and minutes
abbrev pub up_text : ℕ → List ℕ
up_text micros =
    decimal (micros / 3600000000) ++ codes " h " ++ decimal (micros / 60000000 % 60)
    ++ codes " min"

abbrev pub clients_text : Status → List ℕ
clients_text now =
    codes "   " ++ decimal now.users ++ codes " users, " ++ decimal now.sessions ++ codes " of "
    ++ decimal now.max_sessions ++ codes " sessions, "

abbrev pub counts_of : ℕ → ℕ → List ℕ
counts_of transfers waiting =
    decimal transfers ++ (codes " transfers, " ++ (decimal waiting ++ codes " waiting"))

abbrev pub counts_text : Status → List ℕ
counts_text now = counts_of (length now.transfers.items) (waiting now.transfers.items)

-- the program, the time since its start, its users, sessions and transfers
abbrev pub head_line : Status → List ℕ
head_line now =
    codes "ftpd  up " ++ up_text now.micros ++ clients_text now ++ counts_text now

-- at least 99 hundredths of a rate
abbrev pub is_full : ℕ → ℕ → Bool
is_full total rate = nat_le (rate * 99) (total * 100)

-- the part that is used of a rate; 0 is none
abbrev pub used_text : ℕ → ℕ → List ℕ
used_text total rate =
    if nat_eq rate 0 then amount total
    else if is_full total rate then amount total ++ codes " of " ++ amount rate ++ codes " FULL"
    else amount total ++ codes " of " ++ amount rate

abbrev pub labelled : List ℕ → ℕ → ℕ → List ℕ
labelled label total rate = label ++ used_text total rate

-- octets a second of all, down, up and both ways, of the rates of the server
abbrev pub totals_line : Option (Bor Status) → Status → List ℕ
totals_line past now =
    labelled (codes "down ") (line_total past now Down) now.line.down
    ++ labelled (codes "   up ") (line_total past now Up) now.line.up
    ++ labelled (codes "   both ") (both_total past now) now.line.both

-- number of the sessions that transfer nothing, and what is guaranteed to all sessions together
abbrev pub idle_number : ℕ → List ℕ
idle_number n = decimal n ++ codes " idle"

abbrev pub idle_line : Status → List ℕ
idle_line now =
    idle_number (length (idle_sessions now))
    ++ labelled (codes "   guaranteed down ") now.guaranteed_down now.line.down
    ++ labelled (codes "   up ") now.guaranteed_up now.line.up

-- the same of a group, with what is guaranteed to its users
abbrev pub group_rates : Option (Bor Status) → Status → GroupStatus → List ℕ → List ℕ
group_rates past now group name =
    labelled (codes "down ") (group_total past now Down name) group.down
    ++ labelled (codes "   up ") (group_total past now Up name) group.up

abbrev pub promised_text : ℕ → ℕ → List ℕ
promised_text down up =
    codes "   least " ++ limit_text down ++ codes " and " ++ limit_text up

abbrev pub group_line : Option (Bor Status) → Status → GroupStatus → List ℕ
group_line past now group =
    codes "group " ++ left 17 (shown_text (string_bytes group.name))
    ++ group_rates past now group (string_bytes group.name)
    ++ promised_text group.guaranteed_down group.guaranteed_up
