-- The invariant of a pace: its rows, and the limits that were written last.
use Rattle.std.specs.Prelude.{◌≡◌, ℕ, Bool, true, List}
use Rattle.std.specs.List.{All}
use Rattle.line_rates.specs.Rates.{Rates}
use Rattle.line_rates.specs.Stated.{IsRising}
use Rattle.round_pace.specs.declared.credit.Credit.{Credit}
use Rattle.round_pace.specs.declared.paced.GroupPace.{GroupPace}
use Rattle.round_pace.specs.declared.paced.UserPace.{UserPace}
use Rattle.round_pace.specs.Credits.{IsCredit}
use Rattle.round_pace.specs.Offered.{left_rates}
use Rattle.round_pace.specs.Paced.{group_key, pace_number, IsGroupPace, IsUserPace, AreTheGroups, AreTheUsers}
use Rattle.round_pace.specs.Quiet.{AllMarked, IsQuietGroup, IsQuietUser}

-- the limits are those of the rows
abbrev pub AreHanded : ℕ → Credit → Credit → Credit → List GroupPace → List UserPace → Rates
    → Type 0
AreHanded begun server down up groups users offered = left_rates (record {
  begun = begun;
  moment = 0;
  server = server;
  down = down;
  up = up;
  groups = groups;
  users = users;
  offered = offered;
}) ≡ offered

-- the rows: those of the rates handed in, sorted by number
pub record IsPaced (begun : ℕ) (is_handed : Bool) (server down up : Credit)
    (groups : List GroupPace) (users : List UserPace) (quiet_groups quiet_users : List Bool)
    (offered : Rates) : Type 0 where
  pub server_fits : IsCredit server
  pub down_fits : IsCredit down
  pub up_fits : IsCredit up
  pub groups_fit : All IsGroupPace groups
  pub users_fit : All IsUserPace users
  pub groups_rise : IsRising group_key groups
  pub users_rise : IsRising pace_number users
  pub are_groups : AreTheGroups offered groups
  pub are_users : AreTheUsers offered users
  pub handed : is_handed ≡ true → AreHanded begun server down up groups users offered
  pub groups_quiet : AllMarked (IsQuietGroup offered) quiet_groups groups
  pub users_quiet : AllMarked (IsQuietUser offered) quiet_users users
