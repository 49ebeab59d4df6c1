-- The facts of a configuration that a status shows.
use Rattle.std.specs.Prelude.{◌≡◌, ℕ, List, Option, Some, length, map, slice_get, string_bytes}
use Rattle.std.specs.FinMap as finite
use Rattle.config_change.specs.Past.{with_numbers}
use Rattle.line_rates.specs.Rates.{Rates}
use Rattle.line_rates.specs.Stated.{IsRising, by_number, group_number, user_number}
use Rattle.line_rates.specs.declared.row.GroupRate.{GroupRate}
use Rattle.line_rates.specs.declared.row.UserRate.{UserRate}
use Rattle.server_config.specs.declared.config.Config.{Config}
use Rattle.status_keeper.specs.declared.facts.StatedGroup.{StatedGroup}
use Rattle.status_keeper.specs.declared.facts.StatedUser.{StatedUser}
use Rattle.status_keeper.specs.declared.facts.StatusFacts.{StatusFacts}
use Rattle.machine_parts.specs.declared.facts.Start.{Start}

abbrev pub stated_user : StatedUser → List ℕ × ℕ
stated_user user = (string_bytes user.name, user.number)

abbrev pub stated_group : StatedGroup → Option (List ℕ) × ℕ
stated_group group = (Some (string_bytes group.name), group.number)

-- the group of a row: its number, and the name that has this number
abbrev pub group_of : List (List ℕ) → GroupRate → Option (List ℕ) × ℕ
group_of names row = (slice_get names row.group, row.group)

-- the groups that have rates, each once and with its name
abbrev pub AreGroups : Config → List StatedGroup → Type 0
AreGroups config stated =
    (rows : List GroupRate) × IsRising group_number rows
    × (by_number group_number rows ≡ config.limits.groups)
    × (map stated_group stated ≡ map (group_of (map string_bytes config.groups.items)) rows)

-- the number of users that have rates, each once
abbrev pub AreUsers : Config → ℕ → Type 0
AreUsers config count =
    (rows : List UserRate) × IsRising user_number rows
    × (by_number user_number rows ≡ config.limits.users) × (count ≡ length rows)

-- They are those of the configuration, with the limits in force, those of the past among them.
pub record AreFacts (start : Start) (config : Config) (limits : Rates) (facts : StatusFacts)
    : Type 0 where
  pub limits_are : facts.limits ≡ limits
  pub stated : AreGroups config facts.stated.items
  pub users : AreUsers config facts.users
  pub groups : map string_bytes facts.groups.items ≡ map string_bytes config.groups.items
  pub names : map stated_user facts.names.items
      ≡ with_numbers config.users (finite.keys config.users.users)
  pub lanes : facts.lanes ≡ config.numbers.lanes
  pub sessions : facts.max_sessions ≡ config.numbers.max_cons
  pub started : facts.started ≡ start.seconds
  pub zero_is : facts.zero ≡ start.micros
