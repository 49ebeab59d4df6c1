-- The limits that a round is handed, and the earliest moment of the next one.
use Rattle.std.specs.Prelude.{◌≡◌, ℕ, ◌+◌, ◌-◌, ◌*◌, ◌^◌, ◌&&◌, ◌||◌, min, nat_le, if◌then◌else◌, List, map}
use Rattle.std.specs.List.{fold}
use Rattle.line_rates.specs.declared.row.GroupRate.{GroupRate}
use Rattle.line_rates.specs.declared.row.UserRate.{UserRate}
use Rattle.line_rates.specs.Put.{with_user, with_group, with_line}
use Rattle.line_rates.specs.Rates.{Rates, shared_by}
use Rattle.line_rates.specs.Stated.{stated, IsRising}
use Rattle.round_pace.specs.declared.credit.Credit.{Credit}
use Rattle.round_pace.specs.declared.due.Due.{Due}
use Rattle.round_pace.specs.declared.due.Due.TheVariants.{Now, At}
use Rattle.round_pace.specs.declared.paced.GroupPace.{GroupPace}
use Rattle.round_pace.specs.declared.paced.UserPace.{UserPace}
use Rattle.round_pace.specs.Credits.{refill_row, is_dry}
use Rattle.round_pace.specs.Earned.{tick_of, as_rate}
use Rattle.round_pace.specs.FloorsFit.{parts_left, owed_in, floor_in}
use Rattle.round_pace.specs.Rows.{group_credit}
use Rattle.round_pace.specs.Spent.{credit_of}
use Rattle.line_rates.specs.declared.ask.Way.{Way}
use Rattle.line_rates.specs.declared.ask.Way.TheVariants.{Down, Up}
use Rattle.round_pace.specs.Paced.{Paced, group_key, pace_number, AreTheGroups, AreTheUsers}
use Rattle.round_pace.specs.declared.credit.TheConstants.{TICK_MICROS}

abbrev pub refill_group : ℕ → ℕ → GroupPace → GroupPace
refill_group begun tick g =
    record { group = g.group; down = refill_row begun tick g.down; up = refill_row begun tick g.up }

abbrev pub refill_user : ℕ → ℕ → UserPace → UserPace
refill_user begun tick u = record {
  row = u.row;
  down = refill_row begun tick u.down;
  up = refill_row begun tick u.up;
  session_down = refill_row begun tick u.session_down;
  session_up = refill_row begun tick u.session_up;
  down_owed = owed_in u.row.session_down_floor u.down_owed begun tick;
  up_owed = owed_in u.row.session_up_floor u.up_owed begun tick;
}

-- all rows after the refill, in the first round of a tick
abbrev pub refill_all : ℕ → Paced → Paced
refill_all tick p = if nat_le p.begun tick then record {
  begun = tick + 1;
  moment = p.moment;
  server = refill_row p.begun tick p.server;
  down = refill_row p.begun tick p.down;
  up = refill_row p.begun tick p.up;
  groups = map (refill_group p.begun tick) p.groups;
  users = map (refill_user p.begun tick) p.users;
  offered = p.offered;
} else p

abbrev pub credit_rate : Credit → ℕ
credit_rate c = as_rate c.rate c.left

-- the rate that is handed in for a guarantee in a round
abbrev pub floor_rate : ℕ → ℕ → ℕ → ℕ
floor_rate floor owed parts = 10 * floor_in floor owed parts

abbrev pub offer_group : GroupPace → GroupRate
offer_group g = record { group = g.group; down = credit_rate g.down; up = credit_rate g.up }

-- the debt to each session of a user
abbrev pub owed_of : Way → UserPace → ℕ
owed_of Down u = u.down_owed
owed_of Up u = u.up_owed

-- the thousandths of ticks whose earnings each rate of the line has left, and those that each rate
-- of a user has
abbrev pub line_parts : Way → Paced → ℕ
line_parts way p = min (parts_left p.server) (parts_left (credit_of way p.down p.up))

abbrev pub user_parts : Way → ℕ → List GroupPace → UserPace → ℕ
user_parts way line groups u =
    min (min line (parts_left (group_credit way groups u.row.group)))
    (min (parts_left (credit_of way u.down u.up))
    (parts_left (credit_of way u.session_down u.session_up)))

-- a user's row for a round, whose rates have these parts of ticks left
abbrev pub offer_user : ℕ → ℕ → UserPace → UserRate
offer_user down up u = record {
  user = u.row.user;
  group = u.row.group;
  down = credit_rate u.down;
  up = credit_rate u.up;
  session_down = credit_rate u.session_down;
  session_up = credit_rate u.session_up;
  session_down_floor = floor_rate u.row.session_down_floor u.down_owed down;
  session_up_floor = floor_rate u.row.session_up_floor u.up_owed up;
}

-- a user's row for a round, if the rates of the line have these parts of ticks left
abbrev pub handed_user : ℕ → ℕ → List GroupPace → UserPace → UserRate
handed_user down up groups u =
    offer_user (user_parts Down down groups u) (user_parts Up up groups u) u

abbrev pub put_groups : Rates → List GroupPace → Rates
put_groups rates groups = fold (λ r g. with_group r (offer_group g)) rates groups

abbrev pub put_users : ℕ → ℕ → List GroupPace → Rates → List UserPace → Rates
put_users down up groups rates users =
    fold (λ r u. with_user r (handed_user down up groups u)) rates users

abbrev pub put_line : Rates → Paced → Rates
put_line rates p = with_line rates (credit_rate p.server) (credit_rate p.down) (credit_rate p.up)

-- the rates that a round is handed; they replace those of the round before
abbrev pub offer_all : Paced → Rates
offer_all p =
    put_users (line_parts Down p) (line_parts Up p) p.groups
    (put_groups (put_line p.offered p) p.groups) p.users

abbrev pub with_offered : Rates → Paced → Paced
with_offered rates p = record {
  begun = p.begun;
  moment = min (p.moment + 1000) (2 ^ 64 - 1);
  server = p.server;
  down = p.down;
  up = p.up;
  groups = p.groups;
  users = p.users;
  offered = rates;
}

-- The pace after a round was offered in a tick: the rows are refilled if it is the first of the
-- tick, the moment is a second later, and the rates are those of the rows.
abbrev pub offer_round : ℕ → Paced → Paced
offer_round tick p = with_offered (offer_all (refill_all tick p)) (refill_all tick p)

-- the rates of the rows: what is left under each rate, of a line that is shared as before
abbrev pub left_rates : Paced → Rates
left_rates p = shared_by p.offered.share_by
    (stated (credit_rate p.server) (credit_rate p.down) (credit_rate p.up)
    (map offer_group p.groups)
    (map (handed_user (line_parts Down p) (line_parts Up p) p.groups) p.users))

-- The rates handed in are those of the rows, and there is no other row.
abbrev pub HandsRowsIn : Type 0
HandsRowsIn =
    (p : Paced) → IsRising group_key p.groups → IsRising pace_number p.users
    → AreTheGroups p.offered p.groups → AreTheUsers p.offered p.users
    → offer_all p ≡ left_rates p

-- The earliest moment of the next round: now, if the tick has not begun or something can be
-- granted; otherwise the start of the next tick.
abbrev pub due_in : Paced → ℕ → Due
due_in p now =
    if nat_le p.begun (tick_of now) then Now
    else if is_dry p.server || (is_dry p.down && is_dry p.up)
    then At (min (p.begun * TICK_MICROS) (2 ^ 64 - 1))
    else Now
