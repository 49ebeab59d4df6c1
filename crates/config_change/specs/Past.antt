-- Users and groups that a configuration has no longer: their rows of rates, and their numbers.
use Rattle.std.specs.Prelude.{◌≡◌, ℕ, not, List, [], ◌∷◌, ◌++◌, map, Option, Some, None, option_map, string_bytes}
use Rattle.std.specs.Option.{option_or}
use Rattle.std.specs.FinMap as finite
use Rattle.std.specs.List.{filter}
use Rattle.authorizer.specs.Users.{Accounts}
use Rattle.line_rates.specs.Rates.{Rates}
use Rattle.line_rates.specs.declared.row.GroupRate.{GroupRate}
use Rattle.line_rates.specs.declared.row.UserRate.{UserRate}
use Rattle.config_change.specs.Named.{number_named}
use Rattle.config_change.specs.declared.known.NumberedName.{NumberedName}

abbrev pub without_guarantee : UserRate → UserRate
without_guarantee row = record row {
  session_down_floor = 0;
  session_up_floor = 0;
}

-- the rows of groups that have no row in the rates
abbrev pub past_groups : Rates → List GroupRate → List GroupRate
past_groups rates rows =
    filter (λ row. not (finite.contains_key rates.groups row.group)) rows

-- the rows of users that have no row in the rates, without guarantees
abbrev pub past_users : Rates → List UserRate → List UserRate
past_users rates rows =
    map without_guarantee
    (filter (λ row. not (finite.contains_key rates.users row.user)) rows)

abbrev pub groups_with_past : Rates → Rates → List GroupRate
groups_with_past rates earlier =
    finite.values rates.groups ++ past_groups rates (finite.values earlier.groups)

abbrev pub users_with_past : Rates → Rates → List UserRate
users_with_past rates earlier =
    finite.values rates.users ++ past_users rates (finite.values earlier.users)

-- Whoever has a row in the rates keeps it, and whoever has none keeps the earlier one, without a
-- guarantee. The line is shared among the same as before.
pub record KeepPast (rates earlier all : Rates) : Type 0 where
  pub server : all.server ≡ rates.server
  pub down : all.down ≡ rates.down
  pub up : all.up ≡ rates.up
  pub share_by : all.share_by ≡ earlier.share_by
  pub groups : (group : ℕ) → finite.get all.groups group
      ≡ option_or (finite.get rates.groups group) (finite.get earlier.groups group)
  pub users : (user : ℕ) → finite.get all.users user
      ≡ option_or (finite.get rates.users user)
      (option_map without_guarantee (finite.get earlier.users user))

-- a name with the number of its user, before others
abbrev pub with_number : List ℕ → Option ℕ → List (List ℕ × ℕ) → List (List ℕ × ℕ)
with_number name None others = others
with_number name (Some number) others = (name, number) ∷ others

-- names with the numbers of their users
abbrev pub with_numbers : Accounts → List (List ℕ) → List (List ℕ × ℕ)
with_numbers users [] = []
with_numbers users (name ∷ names) =
    with_number name (number_named users name) (with_numbers users names)

abbrev pub named_item : NumberedName → List ℕ × ℕ
named_item item = (string_bytes item.name, item.number)

-- the known names that no user has
abbrev pub past_names : Accounts → List (List ℕ × ℕ) → List (List ℕ × ℕ)
past_names users known = filter (λ e. not (finite.contains_key users.users e.0)) known

-- the names of all users, and those of the past, each with its number
abbrev pub known_after : Accounts → List (List ℕ × ℕ) → List (List ℕ × ℕ)
known_after users known =
    with_numbers users (finite.keys users.users) ++ past_names users known
