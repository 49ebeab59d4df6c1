-- Counted sessions under other rates, and the first limit that is then broken.
use Rattle.std.specs.Prelude.{◌≡◌, ◌≤◌, ◌↔◌, ℕ, ◌+◌, false, nat_eq, nat_lt, if◌then◌else◌, List, [], ◌∷◌, map, Option, Some, None, Result, Ok, Err}
use Rattle.std.specs.FinMap as finite
use Rattle.std.specs.Option.{option_or}
use Rattle.line_rates.specs.declared.ask.Name.{Name}
use Rattle.line_rates.specs.declared.ask.Name.TheVariants.{Server, Direction, Group, User, Session}
use Rattle.line_rates.specs.declared.ask.Way.{Way}
use Rattle.line_rates.specs.declared.ask.Way.TheVariants.{Down, Up}
use Rattle.line_rates.specs.declared.row.GroupRate.{GroupRate}
use Rattle.line_rates.specs.declared.row.UserRate.{UserRate}
use Rattle.line_rates.specs.Rates.{Rates, rate_of}
use Rattle.line_rates.specs.Stated.{by_number, group_number, user_number, IsRising}
use Rattle.rate_floors.specs.declared.carry.CarryFault.{CarryFault}
use Rattle.rate_floors.specs.declared.carry.CarryFault.TheVariants.{TooLarge, Broken}
use Rattle.rate_floors.specs.declared.find.GroupPromise.{GroupPromise}
use Rattle.rate_floors.specs.declared.find.UserSessions.{UserSessions}
use Rattle.rate_floors.specs.declared.fits.TheConstants.{MAX_PROMISED}
use Rattle.rate_floors.specs.Promises.{Promises, PromisesFit, user_of, user_key, user_row, floor_in, promised_user, promised, promised_group, keeps}

-- the number of counted sessions of a user; 0 without a row
abbrev pub sessions_in : Option UserSessions → ℕ
sessions_in None = 0
sessions_in (Some entry) = entry.sessions

abbrev pub sessions_of : Promises → ℕ → ℕ
sessions_of p user = sessions_in (user_of p user)

abbrev pub carried_entry : Promises → UserRate → UserSessions
carried_entry p row = record { row = row; sessions = sessions_of p row.user }

-- other rates, and for each of their users as many sessions as are counted of the same number
abbrev pub carried_to : Promises → Rates → Promises
carried_to p rates =
    record { rates = rates; users = map (carried_entry p) (finite.values rates.users) }

-- the fault of a name, if its guarantees are above its rate; a rate of 0 is no limit
abbrev pub broken : Name → ℕ → ℕ → Option CarryFault
broken name promised rate = if keeps promised rate then None else Some (Broken name promised rate)

-- the limits of each session of a user, as that of session 0, and those of the user; none of them
-- is broken if no session is counted
abbrev pub broken_row : UserSessions → Option CarryFault
broken_row entry =
    option_or (option_or (option_or
    (broken (Session Down (user_key entry) 0) entry.row.session_down_floor entry.row.session_down)
    (broken (Session Up (user_key entry) 0) entry.row.session_up_floor entry.row.session_up))
    (broken (User Down (user_key entry)) (promised_user Down entry) entry.row.down))
    (broken (User Up (user_key entry)) (promised_user Up entry) entry.row.up)

abbrev pub broken_user : UserSessions → Option CarryFault
broken_user entry = if nat_eq entry.sessions 0 then None else broken_row entry

abbrev pub broken_sums : GroupPromise → Option CarryFault
broken_sums entry =
    option_or (broken (Group Down entry.row.group) entry.down entry.row.down)
    (broken (Group Up entry.row.group) entry.up entry.row.up)

abbrev pub broken_group : List UserSessions → GroupRate → Option CarryFault
broken_group users row = broken_sums (record {
  row = row;
  down = promised_group users Down row.group;
  up = promised_group users Up row.group;
})

abbrev pub broken_line : ℕ → ℕ → ℕ → ℕ → ℕ → Option CarryFault
broken_line down up server_rate down_rate up_rate =
    option_or (option_or (broken (Direction Down) down down_rate)
    (broken (Direction Up) up up_rate))
    (broken Server (down + up) server_rate)

abbrev pub first_broken : {X : Type 0} → (X → Option CarryFault) → List X → Option CarryFault
first_broken test [] = None
first_broken test (x ∷ xs) = option_or (test x) (first_broken test xs)

-- the first broken limit: of a user, in the order of their numbers; of a group, in the order of
-- their numbers; of a way; of the server
abbrev pub broken_limit : Promises → Option CarryFault
broken_limit p =
    option_or (option_or (first_broken broken_user p.users)
    (first_broken (broken_group p.users) (finite.values p.rates.groups)))
    (broken_line (promised p.users Down) (promised p.users Up) p.rates.server p.rates.down
    p.rates.up)

abbrev pub carry_fault : Promises → Option CarryFault
carry_fault p =
    if nat_lt MAX_PROMISED (promised p.users Down + promised p.users Up) then Some TooLarge
    else broken_limit p

abbrev pub unless_broken : Option CarryFault → Promises → Result Promises CarryFault
unless_broken None p = Ok p
unless_broken (Some fault) p = Err fault

-- the counted sessions under other rates, if all guarantees fit
abbrev pub carried : Promises → Rates → Result Promises CarryFault
carried p rates = unless_broken (carry_fault (carried_to p rates)) (carried_to p rates)

-- ---- laws

-- rows as limits have them: those of the users are in the order of their numbers
pub record HasRows (p : Promises) : Type 0 where
  pub groups : List GroupRate
  pub groups_rise : IsRising group_number groups
  pub groups_are : p.rates.groups ≡ by_number group_number groups
  pub users_rise : IsRising user_key p.users
  pub users_are : p.rates.users ≡ by_number user_number (map user_row p.users)

-- sum of the guarantees under a name; that of each session of a user if some session is counted
abbrev pub floor_if : Option UserSessions → Way → ℕ
floor_if None way = 0
floor_if (Some entry) way = if nat_eq entry.sessions 0 then 0 else floor_in entry.row way

abbrev pub user_sum : Option UserSessions → Way → ℕ
user_sum None way = 0
user_sum (Some entry) way = promised_user way entry

abbrev pub promised_under : Promises → Name → ℕ
promised_under p Server = promised p.users Down + promised p.users Up
promised_under p (Direction way) = promised p.users way
promised_under p (Group way group) = promised_group p.users way group
promised_under p (User way user) = user_sum (user_of p user) way
promised_under p (Session way user session) = floor_if (user_of p user) way

-- the guarantees under the name are above its rate
pub record IsBroken (p : Promises) (name : Name) (promised rate : ℕ) : Type 0 where
  pub promised_is : promised_under p name ≡ promised
  pub rate_is : rate_of p.rates name ≡ rate
  pub above : keeps promised rate ≡ false

-- There is no fault exactly if all guarantees fit, and their sum is not too large,
abbrev pub CarriesWhatFits : Type 0
CarriesWhatFits =
    (p : Promises) → HasRows p
    → (carry_fault p ≡ None)
    ↔ (PromisesFit p × (promised p.users Down + promised p.users Up ≤ MAX_PROMISED))

-- and the limit that a fault names is broken, by its numbers.
abbrev pub NamesABrokenLimit : Type 0
NamesABrokenLimit =
    (p : Promises) (name : Name) (promised rate : ℕ) → HasRows p
    → carry_fault p ≡ Some (Broken name promised rate) → IsBroken p name promised rate
