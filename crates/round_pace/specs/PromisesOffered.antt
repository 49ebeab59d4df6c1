-- The rates that a round is handed, with the guarantees of counted sessions.
use Rattle.std.specs.Prelude.{◌≡◌, ◌≢◌, ℕ, ◌*◌, ◌≤◌, true, map}
use Rattle.std.specs.FinMap as finite
use Rattle.std.specs.List.{All}
use Rattle.line_rates.specs.declared.ask.Way.{Way}
use Rattle.line_rates.specs.declared.ask.Way.TheVariants.{Down, Up}
use Rattle.line_rates.specs.declared.rate.TheConstants.{MAX_RATE}
use Rattle.line_rates.specs.declared.row.UserRate.{UserRate}
use Rattle.line_rates.specs.Names.{is_number}
use Rattle.line_rates.specs.Rates.{way_of, group_rate}
use Rattle.line_rates.specs.Stated.{by_number, user_number}
use Rattle.rate_floors.specs.declared.find.UserSessions.{UserSessions}
use Rattle.rate_floors.specs.Promises.{Promises, PromisesFit, user_row}
use Rattle.round_pace.specs.declared.credit.Credit.{Credit}
use Rattle.round_pace.specs.declared.credit.TheConstants.{MOST_PARTS}
use Rattle.round_pace.specs.Earned.{share, as_rate, refilled}
use Rattle.round_pace.specs.FloorsFit.{ticks_due, parts_left, part_share}
use Rattle.round_pace.specs.Rows.{floor_of}

-- the octets left under the rates of the server, the ways, the groups, the users, and each session
-- of a user
pub record Lefts : Type 0 where
  pub server : ℕ
  pub way : Way → ℕ
  pub group : Way → ℕ → ℕ
  pub user : UserRate → Way → ℕ
  pub session : UserRate → Way → ℕ

-- each rate has left what it earns in the thousandths of ticks that `tops` has for it
pub record HasParts (p : Promises) (tops left : Lefts) : Type 0 where
  pub server : part_share p.rates.server tops.server ≤ left.server
  pub way : (w : Way) → part_share (way_of p.rates.down p.rates.up w) (tops.way w) ≤ left.way w
  pub group : (w : Way) (g : ℕ)
      → part_share (group_rate (finite.get p.rates.groups g) w) (tops.group w g) ≤ left.group w g
  pub user : (row : UserRate) (w : Way)
      → part_share (way_of row.down row.up w) (tops.user row w) ≤ left.user row w
  pub session : (row : UserRate) (w : Way)
      → part_share (way_of row.session_down row.session_up w) (tops.session row w)
      ≤ left.session row w

-- for each user and way, the octets that are handed in for the guarantee of each session
abbrev pub Owed : Type 0
Owed = UserRate → Way → ℕ

-- a user's row as it is handed in
abbrev pub offered_row : Owed → Lefts → UserRate → UserRate
offered_row owed left row = record {
  user = row.user;
  group = row.group;
  down = as_rate row.down (left.user row Down);
  up = as_rate row.up (left.user row Up);
  session_down = as_rate row.session_down (left.session row Down);
  session_up = as_rate row.session_up (left.session row Up);
  session_down_floor = 10 * owed row Down;
  session_up_floor = 10 * owed row Up;
}

abbrev pub offered_entry : Owed → Lefts → UserSessions → UserSessions
offered_entry owed left entry =
    record { row = offered_row owed left entry.row; sessions = entry.sessions }

-- a user's guarantees are handed in for at most the thousandths of ticks that each of their rates
-- has left
pub record IsOwed (tops : Lefts) (owed : Owed) (e : UserSessions) : Type 0 where
  pub server : (w : Way) → owed e.row w ≤ part_share (floor_of w e.row) tops.server
  pub way : (w : Way) → owed e.row w ≤ part_share (floor_of w e.row) (tops.way w)
  pub group : (w : Way) (g : ℕ) → is_number e.row.group g ≡ true
      → owed e.row w ≤ part_share (floor_of w e.row) (tops.group w g)
  pub user : (w : Way) → owed e.row w ≤ part_share (floor_of w e.row) (tops.user e.row w)
  pub session : (w : Way) → owed e.row w ≤ part_share (floor_of w e.row) (tops.session e.row w)

-- the rates handed in, with the same counted sessions
pub record IsOffered (owed : Owed) (p : Promises) (left : Lefts) (q : Promises) : Type 0 where
  pub server : q.rates.server ≡ as_rate p.rates.server left.server
  pub down : q.rates.down ≡ as_rate p.rates.down (left.way Down)
  pub up : q.rates.up ≡ as_rate p.rates.up (left.way Up)
  pub groups : (w : Way) (g : ℕ) → group_rate (finite.get q.rates.groups g) w
      ≡ as_rate (group_rate (finite.get p.rates.groups g) w) (left.group w g)
  pub users : q.users ≡ map (offered_entry owed left) p.users
  pub rows : q.rates.users ≡ by_number user_number (map user_row q.users)

-- Guarantees that fit the stated rates fit what is left of them, whatever rounds there were before,
-- if each is handed in for at most the parts of ticks whose earnings each of its rates has left.
abbrev pub OwedFits : Type 0
OwedFits =
    (owed : Owed) (p q : Promises) (left tops : Lefts) → PromisesFit p → HasParts p tops left
    → All (IsOwed tops owed) p.users → IsOffered owed p left q → PromisesFit q

-- A rate has left what it earns in the parts of ticks that it has left, and no more of them.
abbrev pub LeftPartsFit : Type 0
LeftPartsFit = (c : Credit) → c.rate ≢ 0 → part_share c.rate (parts_left c) ≤ c.left

abbrev pub PartsAreLeft : Type 0
PartsAreLeft = (c : Credit) (parts : ℕ) → parts ≤ MOST_PARTS → part_share c.rate parts ≤ c.left
    → parts ≤ parts_left c

-- As a tick begins, a row has earned the ticks that are due.
abbrev pub EarnsItsTicks : Type 0
EarnsItsTicks = (rate left begun tick : ℕ) → rate ≤ MAX_RATE → begun ≤ tick
    → share rate (ticks_due begun tick) ≤ refilled rate left begun tick
