-- The rates of a line, its groups and its users, in octets per second (0 is no limit), and among
-- whom the line is shared.
use Rattle.std.specs.Prelude.{◌≡◌, ℕ, Bool, true, false, Option, Some, None, refl}
use Rattle.std.specs.Coded.{Coded, code_by, coded×, coded_ℕ, coded_bool, coded_option}
use Rattle.std.specs.FinMap as map
use Rattle.std.specs.Ordering.{nat_cmp}
use Rattle.line_rates.specs.declared.ask.Way.{Way}
use Rattle.line_rates.specs.declared.ask.Way.TheVariants.{Down, Up}
use Rattle.line_rates.specs.declared.ask.Name.{Name}
use Rattle.line_rates.specs.declared.ask.Name.TheVariants.{Server, Direction, Group, User, Session}
use Rattle.line_rates.specs.declared.row.GroupRate.{GroupRate}
use Rattle.line_rates.specs.declared.row.UserRate.{UserRate}
use Rattle.line_rates.specs.declared.share_by.ShareBy.{ShareBy}
use Rattle.line_rates.specs.declared.share_by.ShareBy.TheVariants as share

-- the groups' rows by number
abbrev pub Groups : Type 0
Groups = map.FinMap nat_cmp GroupRate

-- the users' rows by number
abbrev pub Users : Type 0
Users = map.FinMap nat_cmp UserRate

pub record Rates : Type 0 where
  pub server : ℕ
  pub down : ℕ
  pub up : ℕ
  pub groups : Groups
  pub users : Users
  pub share_by : ShareBy

-- the same rates, of a line that is shared among these
abbrev pub shared_by : ShareBy → Rates → Rates
shared_by by rates = record {
  server = rates.server;
  down = rates.down;
  up = rates.up;
  groups = rates.groups;
  users = rates.users;
  share_by = by;
}

-- the one of two rates that applies to a way
abbrev pub way_of : ℕ → ℕ → Way → ℕ
way_of down up Down = down
way_of down up Up = up

abbrev pub group_in : Option UserRate → Option ℕ
group_in None = None
group_in (Some row) = row.group

-- the group of a user, if they are in one
abbrev pub group_of : Rates → ℕ → Option ℕ
group_of rates user = group_in (map.get rates.users user)

abbrev pub group_rate : Option GroupRate → Way → ℕ
group_rate None way = 0
group_rate (Some row) way = way_of row.down row.up way

abbrev pub user_rate : Option UserRate → Way → ℕ
user_rate None way = 0
user_rate (Some row) way = way_of row.down row.up way

abbrev pub session_rate : Option UserRate → Way → ℕ
session_rate None way = 0
session_rate (Some row) way = way_of row.session_down row.session_up way

-- the guarantee of each session of a user
abbrev pub floor_rate : Option UserRate → Way → ℕ
floor_rate None way = 0
floor_rate (Some row) way = way_of row.session_down_floor row.session_up_floor way

-- the rate of a name; 0, which is no limit, if none is stated
abbrev pub rate_of : Rates → Name → ℕ
rate_of rates Server = rates.server
rate_of rates (Direction way) = way_of rates.down rates.up way
rate_of rates (Group way group) = group_rate (map.get rates.groups group) way
rate_of rates (User way user) = user_rate (map.get rates.users user) way
rate_of rates (Session way user session) = session_rate (map.get rates.users user) way

-- codes, by which proofs distinguish values
abbrev pub group_code : Coded GroupRate
group_code =
    code_by (ℕ × (ℕ × ℕ)) (coded× coded_ℕ (coded× coded_ℕ coded_ℕ)) (λ r. (r.group, (r.down, r.up)))
    (λ p. record { group = p.0; down = p.1.0; up = p.1.1 }) (λ _. refl)

abbrev pub user_code : Coded UserRate
user_code = code_by (((ℕ × Option ℕ) × (ℕ × ℕ)) × ((ℕ × ℕ) × (ℕ × ℕ)))
    (coded× (coded× (coded× coded_ℕ (coded_option coded_ℕ)) (coded× coded_ℕ coded_ℕ))
    (coded× (coded× coded_ℕ coded_ℕ) (coded× coded_ℕ coded_ℕ)))
    (λ r. (
      ((r.user, r.group), (r.down, r.up)),
      ((r.session_down, r.session_up), (r.session_down_floor, r.session_up_floor)),
    ))
    (λ p. record {
      user = p.0.0.0;
      group = p.0.0.1;
      down = p.0.1.0;
      up = p.0.1.1;
      session_down = p.1.0.0;
      session_up = p.1.0.1;
      session_down_floor = p.1.1.0;
      session_up_floor = p.1.1.1;
    })
    (λ _. refl)

abbrev pub is_by_users : ShareBy → Bool
is_by_users share.Sessions = false
is_by_users share.Users = true

abbrev pub share_from : Bool → ShareBy
share_from false = share.Sessions
share_from true = share.Users

abbrev pub share_back : (by : ShareBy) → share_from (is_by_users by) ≡ by
share_back share.Sessions = refl
share_back share.Users = refl

abbrev pub share_code : Coded ShareBy
share_code = code_by Bool coded_bool is_by_users share_from share_back

abbrev pub rates_code : Coded Rates
rates_code =
    code_by ((ℕ × (ℕ × ℕ)) × ((Groups × Users) × ShareBy))
    (coded× (coded× coded_ℕ (coded× coded_ℕ coded_ℕ))
    (coded× (coded× (map.code coded_ℕ group_code) (map.code coded_ℕ user_code)) share_code))
    (λ r. ((r.server, (r.down, r.up)), ((r.groups, r.users), r.share_by)))
    (λ p. record {
      server = p.0.0;
      down = p.0.1.0;
      up = p.0.1.1;
      groups = p.1.0.0;
      users = p.1.0.1;
      share_by = p.1.1;
    }) (λ _. refl)
