-- A pace whose rates were changed.
use Rattle.std.specs.Prelude.{◌≡◌, ℕ, min, List, [], map, Some}
use Rattle.line_rates.specs.declared.ask.Way.TheVariants.{Down, Up}
use Rattle.line_rates.specs.declared.row.GroupRate.{GroupRate}
use Rattle.line_rates.specs.declared.row.UserRate.{UserRate}
use Rattle.line_rates.specs.Rates.{Rates}
use Rattle.line_rates.specs.Stated.{by_number, group_number, user_number, IsRising, stated}
use Rattle.round_pace.specs.declared.credit.Credit.{Credit}
use Rattle.round_pace.specs.declared.paced.GroupPace.{GroupPace}
use Rattle.round_pace.specs.declared.paced.UserPace.{UserPace}
use Rattle.round_pace.specs.Earned.{most_kept}
use Rattle.round_pace.specs.Paced.{Paced, no_credit}
use Rattle.round_pace.specs.Rows.{group_credit, user_credit, session_credit}

-- a new rate: what was left under the old one, cut to the most that the new one keeps
abbrev pub changed_credit : ℕ → Credit → Credit
changed_credit rate c = record { rate = rate; left = min c.left (most_kept rate) }

-- new rows: what was left under the same number; nothing for a number that had no row. Of a
-- guarantee nothing is kept: the new one is owed from then on.
abbrev pub changed_group : List GroupPace → GroupRate → GroupPace
changed_group groups row = record {
  group = row.group;
  down = changed_credit row.down (group_credit Down groups (Some row.group));
  up = changed_credit row.up (group_credit Up groups (Some row.group));
}

abbrev pub changed_user : List UserPace → UserRate → UserPace
changed_user users row = record {
  row = row;
  down = changed_credit row.down (user_credit Down users row.user);
  up = changed_credit row.up (user_credit Up users row.user);
  session_down = changed_credit row.session_down (session_credit Down users row.user);
  session_up = changed_credit row.session_up (session_credit Up users row.user);
  down_owed = 0;
  up_owed = 0;
}

-- The pace after a change to some rates: the same ticks have begun, and under each name what was
-- left is kept, cut to what the new rate keeps.
pub record IsChangedTo (rates : Rates) (old : Paced) (p : Paced) : Type 0 where
  pub group_rows : List GroupRate
  pub user_rows : List UserRate
  pub groups_are : by_number group_number group_rows ≡ rates.groups
  pub users_are : by_number user_number user_rows ≡ rates.users
  pub groups_rise : IsRising group_number group_rows
  pub users_rise : IsRising user_number user_rows
  pub is : p ≡ record {
    begun = old.begun;
    moment = old.moment;
    server = changed_credit rates.server old.server;
    down = changed_credit rates.down old.down;
    up = changed_credit rates.up old.up;
    groups = map (changed_group old.groups) group_rows;
    users = map (changed_user old.users) user_rows;
    offered = rates;
  }

-- a pace without rates: nothing is kept
abbrev pub idle : ℕ → Paced
idle begun = record {
  begun = begun;
  moment = 0;
  server = no_credit 0;
  down = no_credit 0;
  up = no_credit 0;
  groups = [];
  users = [];
  offered = stated 0 0 0 [] [];
}
