-- The guarantees of counted sessions in octets per second, and when those of one more still fit.
use Rattle.std.specs.Prelude.{◌≡◌, ℕ, ◌+◌, ◌-◌, ◌*◌, ◌^◌, ◌<◌, ◌≤◌, Bool, true, false, ◌&&◌, ◌||◌, nat_eq, nat_le, nat_lt, if◌then◌else◌, List, map, sum_by, length, slice_index_or, Option, Some, None, refl}
use Rattle.std.specs.Coded.{Coded, code_by, coded×, coded_ℕ, coded_list}
use Rattle.std.specs.FinMap as finite
use Rattle.std.specs.List.{All}
use Rattle.line_rates.specs.declared.ask.Way.{Way}
use Rattle.line_rates.specs.declared.ask.Way.TheVariants.{Down, Up}
use Rattle.line_rates.specs.declared.row.GroupRate.{GroupRate}
use Rattle.line_rates.specs.declared.row.UserRate.{UserRate}
use Rattle.line_rates.specs.declared.share_by.ShareBy.{ShareBy}
use Rattle.line_rates.specs.Names.{is_number}
use Rattle.line_rates.specs.Put.{IsAt}
use Rattle.line_rates.specs.Rates.{Rates, shared_by, way_of, group_rate, user_code, rates_code}
use Rattle.line_rates.specs.Stated.{by_number, user_number, stated, IsRising, FitsUser}
use Rattle.rate_floors.specs.declared.find.GroupPromise.{GroupPromise}
use Rattle.rate_floors.specs.declared.find.UserSessions.{UserSessions}
use Rattle.rate_floors.specs.declared.fits.TheConstants.{MAX_PROMISED}

-- the rates, and each user with a row with the number of their counted sessions
pub record Promises : Type 0 where
  pub rates : Rates
  pub users : List UserSessions

abbrev pub entry_code : Coded UserSessions
entry_code =
    code_by (UserRate × ℕ) (coded× user_code coded_ℕ) (λ e. (e.row, e.sessions))
    (λ p. record { row = p.0; sessions = p.1 }) (λ _. refl)

abbrev pub promises_code : Coded Promises
promises_code =
    code_by (Rates × List UserSessions) (coded× rates_code (coded_list entry_code))
    (λ p. (p.rates, p.users)) (λ p. record { rates = p.0; users = p.1 }) (λ _. refl)

abbrev pub user_key : UserSessions → ℕ
user_key entry = entry.row.user

abbrev pub user_row : UserSessions → UserRate
user_row entry = entry.row

abbrev pub group_key : GroupPromise → ℕ
group_key entry = entry.row.group

abbrev pub group_row : GroupPromise → GroupRate
group_row entry = entry.row

-- the guarantee of each session of a user
abbrev pub floor_in : UserRate → Way → ℕ
floor_in row way = way_of row.session_down_floor row.session_up_floor way

-- sum of the guarantees of a user's counted sessions
abbrev pub promised_user : Way → UserSessions → ℕ
promised_user way entry = entry.sessions * floor_in entry.row way

-- sum of the guarantees of all counted sessions
abbrev pub promised : List UserSessions → Way → ℕ
promised users way = sum_by (promised_user way) users

-- sum of the guarantees of counted sessions of users in a group
abbrev pub promised_group : List UserSessions → Way → ℕ → ℕ
promised_group users way group =
    sum_by (λ entry. if is_number entry.row.group group then promised_user way entry else 0) users

-- sum of the guarantees of a user's counted sessions and one more
abbrev pub promised_with_more : Way → UserSessions → ℕ
promised_with_more way entry = (entry.sessions + 1) * floor_in entry.row way

-- sets the number of counted sessions of a user
abbrev pub with_sessions : (ℕ → ℕ) → ℕ → UserSessions → UserSessions
with_sessions change user entry =
    if nat_eq (user_key entry) user
    then record { row = entry.row; sessions = change entry.sessions } else entry

abbrev pub changed : (ℕ → ℕ) → Promises → ℕ → Promises
changed change p user = record { rates = p.rates; users = map (with_sessions change user) p.users }

abbrev pub one_more : ℕ → ℕ
one_more sessions = sessions + 1

abbrev pub one_less : ℕ → ℕ
one_less sessions = sessions - 1

-- counts one more session of a user; one less
abbrev pub counted : Promises → ℕ → Promises
counted = changed one_more

abbrev pub released : Promises → ℕ → Promises
released = changed one_less

-- the user with the number of their counted sessions, if they have a row
abbrev pub user_of : Promises → ℕ → Option UserSessions
user_of p user = finite.get (by_number user_key p.users) user

-- a sum is within a rate; a rate of 0 is no limit
abbrev pub keeps : ℕ → ℕ → Bool
keeps sum rate = nat_eq rate 0 || nat_le sum rate

abbrev pub session_fits : UserRate → Bool
session_fits row =
    keeps row.session_down_floor row.session_down && keeps row.session_up_floor row.session_up

abbrev pub user_fits : UserRate → ℕ → Bool
user_fits row sessions =
    keeps (sessions * row.session_down_floor) row.down
    && keeps (sessions * row.session_up_floor) row.up

abbrev pub group_fits : Promises → Option ℕ → Bool
group_fits p None = true
group_fits p (Some group) =
    keeps (promised_group p.users Down group) (group_rate (finite.get p.rates.groups group) Down)
    && keeps (promised_group p.users Up group) (group_rate (finite.get p.rates.groups group) Up)

abbrev pub line_fits : Promises → Bool
line_fits p =
    keeps (promised p.users Down) p.rates.down && keeps (promised p.users Up) p.rates.up
    && keeps (promised p.users Down + promised p.users Up) p.rates.server

-- the sums are at most `MAX_PROMISED`, and the number of sessions is below it
abbrev pub is_small : Promises → ℕ → Bool
is_small p sessions =
    nat_le (promised p.users Down + promised p.users Up) MAX_PROMISED
    && nat_lt sessions MAX_PROMISED

-- The guarantees fit with one more session of a user: within the rates of each session, of the
-- user, of their group, of each way, and of the server, which limits the sum of both ways.
abbrev pub fits : Promises → Option UserSessions → Bool
fits after None = true
fits after (Some entry) =
    is_small after entry.sessions
    && (session_fits entry.row && user_fits entry.row (entry.sessions + 1)
    && group_fits after entry.row.group && line_fits after)

-- one more session of a user fits; for a user without a row it always does
abbrev pub admits : Promises → ℕ → Bool
admits p user = fits (counted p user) (user_of p user)

-- the guarantees of a user's counted sessions are within the rates of each session and of the user
abbrev pub entry_fits : UserSessions → Bool
entry_fits entry =
    nat_eq entry.sessions 0 || (session_fits entry.row && user_fits entry.row entry.sessions)

-- The guarantees of counted sessions are within all rates, and each user with a row occurs once.
pub record PromisesFit (p : Promises) : Type 0 where
  pub rows : p.rates.users ≡ by_number user_number (map user_row p.users)
  pub rising : IsRising user_key p.users
  pub users : All (λ (entry : UserSessions). entry_fits entry ≡ true) p.users
  pub groups : (group : ℕ) → group_fits p (Some group) ≡ true
  pub line : line_fits p ≡ true

abbrev pub has_session : Option UserSessions → Bool
has_session None = false
has_session (Some entry) = nat_lt 0 entry.sessions

-- some session of the user is counted
abbrev pub has_counted : Promises → ℕ → Bool
has_counted p user = has_session (user_of p user)

-- each session of the user has a guarantee, down or up
abbrev pub has_guarantee : Option UserSessions → Bool
has_guarantee None = false
has_guarantee (Some entry) =
    nat_lt 0 entry.row.session_down_floor || nat_lt 0 entry.row.session_up_floor

abbrev pub no_session : UserRate → UserSessions
no_session row = record { row = row; sessions = 0 }

abbrev pub no_promise : GroupRate → GroupPromise
no_promise row = record { row = row; down = 0; up = 0 }

-- the guarantees in a group, with one more session of a user, are within the group's rates
abbrev pub keeps_one_more : GroupPromise → UserRate → Bool
keeps_one_more entry row =
    keeps (entry.down + row.session_down_floor) entry.row.down
    && keeps (entry.up + row.session_up_floor) entry.row.up

-- adds the guarantees of one session to the sums of the user's group, or subtracts them
abbrev pub with_floors : (ℕ → ℕ → ℕ) → UserRate → GroupPromise → GroupPromise
with_floors change row entry =
    if is_number row.group (group_key entry)
    then record {
      row = entry.row;
      down = change entry.down row.session_down_floor;
      up = change entry.up row.session_up_floor;
    } else entry

abbrev pub added : ℕ → ℕ → ℕ
added sum floor = sum + floor

abbrev pub taken : ℕ → ℕ → ℕ
taken sum floor = sum - floor

abbrev pub HasNone : List GroupPromise → Option ℕ → Type 0
HasNone groups None = Unit {0}
HasNone groups (Some group) = finite.get (by_number group_key groups) group ≡ None

abbrev pub IsInGroup : List GroupPromise → Option ℕ → ℕ → Type 0
IsInGroup groups None i = ⊥
IsInGroup groups (Some group) i = IsAt group_key groups group i

-- the sums of a user's group plus the guarantees of one session fit into 64 bits
abbrev pub HasRoom : List GroupPromise → UserRate → Type 0
HasRoom groups row =
    (i : ℕ) (d : GroupPromise) → i < length groups
    → is_number row.group (group_key (slice_index_or groups i d)) ≡ true
    → ((slice_index_or groups i d).down + row.session_down_floor < 2 ^ 64)
    × ((slice_index_or groups i d).up + row.session_up_floor < 2 ^ 64)

-- the sums of a user's group are at least the guarantees of one session
abbrev pub HasFloors : List GroupPromise → UserRate → Type 0
HasFloors groups row =
    (i : ℕ) (d : GroupPromise) → i < length groups
    → is_number row.group (group_key (slice_index_or groups i d)) ≡ true
    → (row.session_down_floor ≤ (slice_index_or groups i d).down)
    × (row.session_up_floor ≤ (slice_index_or groups i d).up)

pub record IsPromised (users : List UserSessions) (entry : GroupPromise) : Type 0 where
  pub down : entry.down ≡ promised_group users Down entry.row.group
  pub up : entry.up ≡ promised_group users Up entry.row.group

-- the promises that rates and rows represent
abbrev pub seen : ShareBy → ℕ → ℕ → ℕ → List GroupPromise → List UserSessions → Promises
seen share_by server down up groups users =
    record {
      rates =
          shared_by share_by (stated server down up (map group_row groups) (map user_row users));
      users = users;
    }

-- the stored sums are those of the definitions
pub record IsReported (down up : ℕ) (groups : List GroupPromise)
    (users : List UserSessions) : Type 0 where
  pub down_reported : down ≡ promised users Down
  pub up_reported : up ≡ promised users Up
  pub small : down + up ≤ MAX_PROMISED
  pub few : All (λ (entry : UserSessions). entry.sessions ≤ MAX_PROMISED) users
  pub users_rise : IsRising user_key users
  pub users_fit : All (λ (entry : UserSessions). FitsUser entry.row) users
  pub groups_rise : IsRising group_key groups
  pub groups_reported : All (IsPromised users) groups

-- promises as they are stored: in sums, which fit
pub record IsKept (share_by : ShareBy) (server down up promised_down promised_up : ℕ)
    (groups : List GroupPromise) (users : List UserSessions) : Type 0 where
  pub reported : IsReported promised_down promised_up groups users
  pub fit : PromisesFit (seen share_by server down up groups users)

-- no session is counted
abbrev pub HasNoSessions : Promises → Type 0
HasNoSessions p = All (λ (entry : UserSessions). entry.sessions ≡ 0) p.users

-- the promises after `admit`, which counts a session if it fits, and after `release`, which takes
-- back one if any is counted
abbrev pub after_admit : Promises → ℕ → Promises
after_admit p user = if admits p user then counted p user else p

abbrev pub after_release : Promises → ℕ → Promises
after_release p user = if has_counted p user then released p user else p
