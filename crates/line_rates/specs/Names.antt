-- The names that octets are counted under, and the floor of an ask.
use Rattle.std.specs.Prelude.{ℕ, ◌/◌, Bool, true, false, ◌&&◌, nat_eq, min, Option, Some, None}
use Rattle.std.specs.FinMap as map
use Rattle.line_rates.specs.declared.ask.Way.{Way}
use Rattle.line_rates.specs.declared.ask.Way.TheVariants.{Down, Up}
use Rattle.line_rates.specs.declared.ask.Ask.{Ask}
use Rattle.line_rates.specs.declared.ask.Name.{Name}
use Rattle.line_rates.specs.declared.ask.Name.TheVariants.{Server, Direction, Group, User, Session}
use Rattle.line_rates.specs.Rates.{Rates, group_of, floor_rate}

abbrev pub same_way : Way → Way → Bool
same_way Down Down = true
same_way Up Up = true
same_way Down Up = false
same_way Up Down = false

abbrev pub is_number : Option ℕ → ℕ → Bool
is_number None n = false
is_number (Some m) n = nat_eq m n

-- the ask counts under the name
abbrev pub bears : Rates → Name → Ask → Bool
bears rates Server a = true
bears rates (Direction way) a = same_way a.way way
bears rates (Group way group) a = same_way a.way way && is_number (group_of rates a.user) group
bears rates (User way user) a = same_way a.way way && nat_eq a.user user
bears rates (Session way user session) a =
    same_way a.way way && (nat_eq a.user user && nat_eq a.session session)

abbrev pub want_of : Ask → ℕ
want_of a = a.want

-- the floor of an ask, the same at every tick: a tenth of its session's guarantee in octets per
-- second, rounded down, and at most its want
abbrev pub floor_of : Rates → Ask → ℕ
floor_of rates a = min a.want (floor_rate (map.get rates.users a.user) a.way / 10)
