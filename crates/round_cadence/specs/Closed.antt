-- Rows that are closed at a tick, by their names.
use Rattle.std.specs.Prelude.{ℕ, nat_lt, if◌then◌else◌, Option, Some, None}
use Rattle.std.specs.Option.{option_or}
use Rattle.line_rates.specs.declared.ask.Ask.{Ask}
use Rattle.line_rates.specs.declared.ask.Way.{Way}
use Rattle.line_rates.specs.declared.ask.Name.{Name}
use Rattle.line_rates.specs.declared.ask.Name.TheVariants.{Server, Direction, Group, User, Session}
use Rattle.round_pace.specs.declared.rows.TransferRows.{TransferRows}
use Rattle.round_cadence.specs.Beats.{in_way}
use Rattle.round_cadence.specs.Cadences.{Beats, opens_at}

-- the group's name, if its row is closed at a tick
abbrev pub closed_group : Way → ℕ → Option ℕ → Beats → Option Name
closed_group way tick None c = None
closed_group way tick (Some group) c =
    if nat_lt tick (opens_at way c.groups group) then Some (Group way group) else None

-- the outer rows: the server's, that of a direction
abbrev pub closed_line : Way → ℕ → Beats → Option Name
closed_line way tick c =
    if nat_lt tick (in_way way c.ways).opens then Some (Direction way)
    else if nat_lt tick c.server.opens then Some Server
    else None

-- the name of the innermost row that an ask's transfer is within and that is closed at a tick
abbrev pub closed_by : Ask → TransferRows → ℕ → Beats → Option Name
closed_by a rows tick c =
    if nat_lt tick (opens_at a.way c.sessions a.user) then Some (Session a.way a.user a.session)
    else if nat_lt tick (opens_at a.way c.users a.user) then Some (User a.way a.user)
    else option_or (closed_group a.way tick rows.group_number c) (closed_line a.way tick c)
