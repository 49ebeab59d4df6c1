-- The rows of a transfer: the credits of the rates that it is within.
use Rattle.std.specs.Prelude.{ℕ, Bool, ◌&&◌, ◌||◌, not, nat_eq, nat_le, List, Option, Some, None}
use Rattle.std.specs.FinMap as finite
use Rattle.line_rates.specs.declared.ask.Way.{Way}
use Rattle.line_rates.specs.declared.ask.Way.TheVariants.{Down, Up}
use Rattle.line_rates.specs.declared.row.UserRate.{UserRate}
use Rattle.line_rates.specs.Stated.{by_number}
use Rattle.round_pace.specs.declared.credit.Credit.{Credit}
use Rattle.round_pace.specs.declared.paced.GroupPace.{GroupPace}
use Rattle.round_pace.specs.declared.paced.UserPace.{UserPace}
use Rattle.round_pace.specs.declared.rows.TransferRows.{TransferRows}
use Rattle.round_pace.specs.Paced.{Paced, group_key, pace_number, no_credit}
use Rattle.round_pace.specs.Spent.{credit_of}
use Rattle.round_pace.specs.Taken.{group_of}

-- the credit of a user and a way; without a row it has a rate of 0, which is no limit
abbrev pub user_row_credit : Way → Option UserPace → Credit
user_row_credit way None = no_credit 0
user_row_credit way (Some u) = credit_of way u.down u.up

abbrev pub user_credit : Way → List UserPace → ℕ → Credit
user_credit way users user = user_row_credit way (finite.get (by_number pace_number users) user)

-- the credit that each session of a user has at least
abbrev pub session_row_credit : Way → Option UserPace → Credit
session_row_credit way None = no_credit 0
session_row_credit way (Some u) = credit_of way u.session_down u.session_up

abbrev pub session_credit : Way → List UserPace → ℕ → Credit
session_credit way users user =
    session_row_credit way (finite.get (by_number pace_number users) user)

-- the credit of a group and a way, likewise
abbrev pub group_row_credit : Way → Option GroupPace → Credit
group_row_credit way None = no_credit 0
group_row_credit way (Some g) = credit_of way g.down g.up

abbrev pub group_credit : Way → List GroupPace → Option ℕ → Credit
group_credit way groups None = no_credit 0
group_credit way groups (Some group) =
    group_row_credit way (finite.get (by_number group_key groups) group)

-- the guarantee of each session of a user
abbrev pub floor_of : Way → UserRate → ℕ
floor_of Down row = row.session_down_floor
floor_of Up row = row.session_up_floor

abbrev pub row_floor : Way → Option UserPace → ℕ
row_floor way None = 0
row_floor way (Some u) = floor_of way u.row

abbrev pub user_floor : Way → List UserPace → ℕ → ℕ
user_floor way users user = row_floor way (finite.get (by_number pace_number users) user)

-- the credits that a user's transfer is within
abbrev pub rows_of : Way → ℕ → Paced → TransferRows
rows_of way user p = record {
  server = p.server;
  way = credit_of way p.down p.up;
  group = group_credit way p.groups (group_of p.users user);
  user = user_credit way p.users user;
  session = session_credit way p.users user;
  group_number = group_of p.users user;
  floor = user_floor way p.users user;
}

-- a rate has at least this number of octets left; 0 is no limit
abbrev pub has_left : Credit → ℕ → Bool
has_left c octets = nat_eq c.rate 0 || nat_le octets c.left

-- sessions of the user have a guarantee, which is earned from one round to the next
abbrev pub has_floor : TransferRows → Bool
has_floor r = not (nat_eq r.floor 0)

-- each rate has, that of a session too, and sessions have no guarantee
abbrev pub have_left : TransferRows → ℕ → Bool
have_left r octets =
    not (has_floor r) && has_left r.server octets && has_left r.way octets
    && has_left r.group octets && has_left r.user octets && has_left r.session octets

-- none of the rates is a limit
abbrev pub are_free : TransferRows → Bool
are_free r = nat_eq r.server.rate 0 && nat_eq r.way.rate 0 && nat_eq r.group.rate 0
    && nat_eq r.user.rate 0 && nat_eq r.session.rate 0
