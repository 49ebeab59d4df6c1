-- Paced rates of a line.
use Rattle.std.specs.Prelude.{◌≡◌, ℕ, ◌*◌, ◌≤◌, List, map, refl}
use Rattle.std.specs.Coded.{Coded, code_by, coded×, coded_ℕ, coded_list}
use Rattle.std.specs.FinMap as finite
use Rattle.std.specs.Option.{is_some}
use Rattle.line_rates.specs.declared.row.GroupRate.{GroupRate}
use Rattle.line_rates.specs.declared.row.UserRate.{UserRate}
use Rattle.line_rates.specs.Rates.{Rates, rates_code, user_code}
use Rattle.line_rates.specs.Stated.{by_number, group_number, user_number, IsRising, FitsUser}
use Rattle.round_pace.specs.declared.credit.Credit.{Credit}
use Rattle.round_pace.specs.declared.paced.GroupPace.{GroupPace}
use Rattle.round_pace.specs.declared.paced.UserPace.{UserPace}
use Rattle.round_pace.specs.Credits.{IsCredit}
use Rattle.round_pace.specs.declared.credit.TheConstants.{MOST_OWED}

-- the number of real ticks begun, the moment of the last round, the rows, and the rates handed in
-- last
pub record Paced : Type 0 where
  pub begun : ℕ
  pub moment : ℕ
  pub server : Credit
  pub down : Credit
  pub up : Credit
  pub groups : List GroupPace
  pub users : List UserPace
  pub offered : Rates

pub record IsGroupPace (g : GroupPace) : Type 0 where
  pub down : IsCredit g.down
  pub up : IsCredit g.up

pub record IsUserPace (u : UserPace) : Type 0 where
  pub row : FitsUser u.row
  pub down : IsCredit u.down
  pub up : IsCredit u.up
  pub session_down : IsCredit u.session_down
  pub session_up : IsCredit u.session_up
  pub down_rate : u.down.rate ≡ u.row.down
  pub up_rate : u.up.rate ≡ u.row.up
  pub session_down_rate : u.session_down.rate ≡ u.row.session_down
  pub session_up_rate : u.session_up.rate ≡ u.row.session_up
  pub down_owed : u.down_owed ≤ u.row.session_down_floor * MOST_OWED
  pub up_owed : u.up_owed ≤ u.row.session_up_floor * MOST_OWED

abbrev pub group_key : GroupPace → ℕ
group_key g = g.group

abbrev pub pace_number : UserPace → ℕ
pace_number u = u.row.user

-- the rates have rows for exactly the groups and users that are paced
abbrev pub AreTheGroups : Rates → List GroupPace → Type 0
AreTheGroups rates groups = (q : ℕ) → is_some (finite.get rates.groups q)
    ≡ is_some (finite.get (by_number group_key groups) q)

abbrev pub AreTheUsers : Rates → List UserPace → Type 0
AreTheUsers rates users = (q : ℕ) → is_some (finite.get rates.users q)
    ≡ is_some (finite.get (by_number pace_number users) q)

-- a credit with nothing earned
abbrev pub no_credit : ℕ → Credit
no_credit rate = record { rate = rate; left = 0 }

abbrev pub new_group : GroupRate → GroupPace
new_group row = record { group = row.group; down = no_credit row.down; up = no_credit row.up }

abbrev pub new_user : UserRate → UserPace
new_user row = record {
  row = row;
  down = no_credit row.down;
  up = no_credit row.up;
  session_down = no_credit row.session_down;
  session_up = no_credit row.session_up;
  down_owed = 0;
  up_owed = 0;
}

-- the pace of some rates, with nothing earned
pub record IsPacedFrom (begun : ℕ) (rates : Rates) (p : Paced) : Type 0 where
  pub group_rows : List GroupRate
  pub user_rows : List UserRate
  pub groups_are : by_number group_number group_rows ≡ rates.groups
  pub users_are : by_number user_number user_rows ≡ rates.users
  pub groups_rise : IsRising group_number group_rows
  pub users_rise : IsRising user_number user_rows
  pub is : p ≡ record {
    begun = begun;
    moment = 0;
    server = no_credit rates.server;
    down = no_credit rates.down;
    up = no_credit rates.up;
    groups = map new_group group_rows;
    users = map new_user user_rows;
    offered = rates;
  }

-- codes, by which proofs distinguish values
abbrev pub credit_code : Coded Credit
credit_code = code_by (ℕ × ℕ) (coded× coded_ℕ coded_ℕ) (λ c. (c.rate, c.left))
    (λ p. record { rate = p.0; left = p.1 }) (λ _. refl)

abbrev pub group_pace_code : Coded GroupPace
group_pace_code = code_by (ℕ × (Credit × Credit)) (coded× coded_ℕ (coded× credit_code credit_code))
    (λ g. (g.group, (g.down, g.up))) (λ p. record { group = p.0; down = p.1.0; up = p.1.1 })
    (λ _. refl)

abbrev pub user_pace_code : Coded UserPace
user_pace_code =
    code_by (UserRate × ((Credit × Credit) × ((Credit × Credit) × (ℕ × ℕ))))
    (coded× user_code (coded× (coded× credit_code credit_code)
    (coded× (coded× credit_code credit_code) (coded× coded_ℕ coded_ℕ))))
    (λ u. (u.row, ((u.down, u.up), ((u.session_down, u.session_up), (u.down_owed, u.up_owed)))))
    (λ p. record {
      row = p.0;
      down = p.1.0.0;
      up = p.1.0.1;
      session_down = p.1.1.0.0;
      session_up = p.1.1.0.1;
      down_owed = p.1.1.1.0;
      up_owed = p.1.1.1.1;
    })
    (λ _. refl)

abbrev pub paced_code : Coded Paced
paced_code =
    code_by ((ℕ × ℕ) × ((Credit × (Credit × Credit)) × ((List GroupPace × List UserPace) × Rates)))
    (coded× (coded× coded_ℕ coded_ℕ)
    (coded× (coded× credit_code (coded× credit_code credit_code))
    (coded× (coded× (coded_list group_pace_code) (coded_list user_pace_code)) rates_code)))
    (λ p. ((p.begun, p.moment), ((p.server, (p.down, p.up)), ((p.groups, p.users), p.offered))))
    (λ p. record {
      begun = p.0.0;
      moment = p.0.1;
      server = p.1.0.0;
      down = p.1.0.1.0;
      up = p.1.0.1.1;
      groups = p.1.1.0.0;
      users = p.1.1.0.1;
      offered = p.1.1.1;
    })
    (λ _. refl)
