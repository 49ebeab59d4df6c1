-- Credits after octets were granted.
use Rattle.std.specs.Prelude.{ℕ, nat_eq, if◌then◌else◌, List, map, Option, Some, None}
use Rattle.std.specs.FinMap as finite
use Rattle.line_rates.specs.declared.ask.Way.{Way}
use Rattle.line_rates.specs.declared.ask.Way.TheVariants.{Down, Up}
use Rattle.line_rates.specs.Stated.{by_number}
use Rattle.round_pace.specs.declared.credit.Credit.{Credit}
use Rattle.round_pace.specs.declared.paced.GroupPace.{GroupPace}
use Rattle.round_pace.specs.declared.paced.UserPace.{UserPace}
use Rattle.round_pace.specs.Credits.{take_row}
use Rattle.round_pace.specs.Paced.{Paced, group_key, pace_number}
use Rattle.round_pace.specs.FloorsFit.{owed_after}

abbrev pub take_if_down : Way → ℕ → Credit → Credit
take_if_down Down octets c = take_row octets c
take_if_down Up octets c = c

abbrev pub take_if_up : Way → ℕ → Credit → Credit
take_if_up Down octets c = c
take_if_up Up octets c = take_row octets c

abbrev pub take_group : Way → ℕ → GroupPace → GroupPace
take_group way octets g =
    record {
      group = g.group;
      down = take_if_down way octets g.down;
      up = take_if_up way octets g.up;
    }

-- the debt to each of a user's sessions of the way is less
abbrev pub owed_if_down : Way → ℕ → ℕ → ℕ
owed_if_down Down octets owed = owed_after octets owed
owed_if_down Up octets owed = owed

abbrev pub owed_if_up : Way → ℕ → ℕ → ℕ
owed_if_up Down octets owed = owed
owed_if_up Up octets owed = owed_after octets owed

-- a user's rows after octets were granted, of which `own` are taken from each of their sessions
abbrev pub take_user : Way → ℕ → ℕ → UserPace → UserPace
take_user way octets own u = record {
  row = u.row;
  down = take_if_down way octets u.down;
  up = take_if_up way octets u.up;
  session_down = take_if_down way own u.session_down;
  session_up = take_if_up way own u.session_up;
  down_owed = owed_if_down way own u.down_owed;
  up_owed = owed_if_up way own u.up_owed;
}

abbrev pub group_in : Option UserPace → Option ℕ
group_in None = None
group_in (Some u) = u.row.group

-- the group of a user, if they have a row and are in one
abbrev pub group_of : List UserPace → ℕ → Option ℕ
group_of users user = group_in (finite.get (by_number pace_number users) user)

-- the rows after octets were granted to a user; those of groups after octets were granted to a user
-- in a group
abbrev pub take_users : Way → ℕ → ℕ → ℕ → List UserPace → List UserPace
take_users way user octets own users =
    map (λ u. if nat_eq (pace_number u) user then take_user way octets own u else u) users

abbrev pub take_groups : Way → Option ℕ → ℕ → List GroupPace → List GroupPace
take_groups way None octets groups = groups
take_groups way (Some group) octets groups =
    map (λ g. if nat_eq (group_key g) group then take_group way octets g else g) groups

-- the pace after octets of a way were taken from the rows of the server and of the ways
abbrev pub take_from_line : Way → ℕ → Paced → Paced
take_from_line way octets p = record {
  begun = p.begun;
  moment = p.moment;
  server = take_row octets p.server;
  down = take_if_down way octets p.down;
  up = take_if_up way octets p.up;
  groups = p.groups;
  users = p.users;
  offered = p.offered;
}

-- the pace after octets of a way were granted to a user, of which `own` are taken from each session
abbrev pub take_octets : Way → ℕ → ℕ → ℕ → Paced → Paced
take_octets way user octets own p = record {
  begun = p.begun;
  moment = p.moment;
  server = take_row octets p.server;
  down = take_if_down way octets p.down;
  up = take_if_up way octets p.up;
  groups = take_groups way (group_of p.users user) octets p.groups;
  users = take_users way user octets own p.users;
  offered = p.offered;
}
