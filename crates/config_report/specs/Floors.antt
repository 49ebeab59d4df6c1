-- The rates for which a session of a user, or a second one, cannot have its guarantees.
use Rattle.std.specs.Prelude.{ℕ, ◌+◌, ◌*◌, Bool, not, ◌||◌, cond, if◌then◌else◌, nat_eq, nat_le, List, [], ◌∷◌, bytes_eq, Option, Some, None, is_some}
use Rattle.std.specs.Option.{option_or}
use Rattle.std.specs.Borrow.{Bor}
use Rattle.config_file.specs.declared.stated.ServerTable.{ServerTable}
use Rattle.config_file.specs.declared.stated.GroupTable.{GroupTable}
use Rattle.config_file.specs.declared.stated.UserTable.{UserTable}
use Rattle.config_report.specs.declared.floors.ShortRate.{ShortRate}
use Rattle.config_report.specs.declared.floors.ShortRate.TheVariants.{Server, ServerDown, ServerUp, GroupDown, GroupUp, UserDown, UserUp, SessionDown, SessionUp}
use Rattle.config_report.specs.declared.floors.Shortage.{Shortage}

-- the rates down and up of the first group of a name; 0, which is no limit, if there is none
abbrev pub rates_by : List GroupTable → List ℕ → ℕ × ℕ
rates_by [] name = (0, 0)
rates_by (group ∷ groups) name =
    cond (bytes_eq group.name.now name) (group.down_rate, group.up_rate) (rates_by groups name)

abbrev pub rates_named : List GroupTable → Option (Bor (List ℕ)) → ℕ × ℕ
rates_named groups None = (0, 0)
rates_named groups (Some name) = rates_by groups name.now

-- a sum is within a rate; a rate of 0 is no limit
abbrev pub fits : ℕ → ℕ → Bool
fits sum rate = nat_eq rate 0 || nat_le sum rate

-- the sessions of the user have a guarantee
abbrev pub has_floor : UserTable → Bool
has_floor user = not (nat_eq user.session_down_floor 0) || not (nat_eq user.session_up_floor 0)

-- a rate that a sum does not fit into
abbrev pub short_of : ShortRate → ℕ → ℕ → Option Shortage
short_of which promised rate =
    if fits promised rate then None
    else Some (record { limit = which; promised = promised; rate = rate })

-- the first rate that the guarantees one way of a number of sessions do not fit into: that of a
-- session, of the user, of the group, and of the server
abbrev pub short_down : ServerTable → ℕ → UserTable → ℕ → Option Shortage
short_down server group user sessions =
    let each = user.session_down_floor in
    let all = sessions * each in
    option_or (option_or (option_or (short_of SessionDown each user.session_down_rate)
    (short_of (UserDown user.name) all user.down_rate))
    (short_of (GroupDown user.group) all group)) (short_of ServerDown all server.down_rate)

abbrev pub short_up : ServerTable → ℕ → UserTable → ℕ → Option Shortage
short_up server group user sessions =
    let each = user.session_up_floor in
    let all = sessions * each in
    option_or (option_or (option_or (short_of SessionUp each user.session_up_rate)
    (short_of (UserUp user.name) all user.up_rate))
    (short_of (GroupUp user.group) all group)) (short_of ServerUp all server.up_rate)

-- the same downwards, upwards, and both ways together, of sessions alone on the server
abbrev pub shortage_of : ServerTable → List GroupTable → UserTable → ℕ → Option Shortage
shortage_of server groups user sessions =
    let group = rates_named groups user.group in
    let both = sessions * user.session_down_floor + sessions * user.session_up_floor in
    option_or (option_or (short_down server group.0 user sessions)
    (short_up server group.1 user sessions)) (short_of Server both server.rate)

-- that of a second session, if the first can have its guarantees
abbrev pub second_shortage : ServerTable → List GroupTable → UserTable → Option Shortage
second_shortage server groups user =
    if is_some (shortage_of server groups user 1) then None else shortage_of server groups user 2
