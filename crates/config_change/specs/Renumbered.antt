-- A configuration whose users and groups have the numbers that they have in a server that runs.
use Rattle.std.specs.Prelude.{◌≡◌, ◌⊎◌, ◌<◌, ◌^◌, ℕ, length, List, map, Option, Some, Ok, Err, string_bytes}
use Rattle.std.specs.FinMap as finite
use Rattle.authorizer.specs.Users.{Accounts}
use Rattle.authorizer.specs.Renumbered.{renumbered, regrouped}
use Rattle.authorizer.specs.declared.fault.AuthorizerFault.TheVariants as AuthorizerFault
use Rattle.line_rates.specs.Rates.{shared_by}
use Rattle.line_rates.specs.Stated.{stated, limits_fault}
use Rattle.line_rates.specs.declared.fault.LimitsFault.{LimitsFault}
use Rattle.line_rates.specs.declared.row.UserRate.{UserRate}
use Rattle.config_change.specs.declared.fault.RenumberFault.{RenumberFault}
use Rattle.config_change.specs.declared.fault.RenumberFault.TheVariants.{NoNumber, Limits, Memory}
use Rattle.config_change.specs.Named.{merged, places_in, group_rows, user_rows}
use Rattle.server_config.specs.declared.config.Config.{Config}

abbrev pub group_places : List (List ℕ) → Config → List ℕ
group_places old config =
    places_in (merged old (map string_bytes config.groups.items))
    (map string_bytes config.groups.items)

-- the rows of users by name
abbrev pub rows_after : List (List ℕ) → Config → Accounts → List UserRate
rows_after old config users =
    user_rows config.users users config.limits (group_places old config)
    (finite.keys config.users.users)

-- By names, nothing but numbers has changed: the users keep numbers, and the groups have the places
-- of their names; the rates are those of the users and groups of the same names.
pub record IsRenumbered (config : Config) (old_users : Accounts) (old_groups : List (List ℕ))
    (new : Config) : Type 0 where
  pub settings : new.settings ≡ config.settings
  pub numbers : new.numbers ≡ config.numbers
  pub store : new.store ≡ config.store
  pub groups : map string_bytes new.groups.items
      ≡ merged old_groups (map string_bytes config.groups.items)
  pub kept : Accounts
  pub keeps : renumbered config.users old_users ≡ Ok kept
  pub users : new.users ≡ regrouped (group_places old_groups config) kept
  pub limits : new.limits ≡ shared_by config.limits.share_by
      (stated config.limits.server config.limits.down config.limits.up
      (group_rows config.limits 0 (group_places old_groups config))
      (rows_after old_groups config new.users))

-- no number is left for a user, or there are more than 2^32 groups
abbrev pub HasNoNumber : Config → Accounts → List (List ℕ) → Type 0
HasNoNumber config old_users old_groups =
    (renumbered config.users old_users ≡ Err AuthorizerFault.NoNumber)
    ⊎ ((2 ^ 32 < length (merged old_groups (map string_bytes config.groups.items)))
    ⊎ (2 ^ 32 < length config.groups.items))

-- the rates have a fault under these numbers
abbrev pub HasFault : Config → Accounts → List (List ℕ) → LimitsFault → Type 0
HasFault config old_users old_groups fault =
    (kept : Accounts) × (renumbered config.users old_users ≡ Ok kept)
    × (limits_fault config.limits.server config.limits.down config.limits.up
    (group_rows config.limits 0 (group_places old_groups config))
    (rows_after old_groups config (regrouped (group_places old_groups config) kept))
    ≡ Some fault)

-- the fault is this fault of rates, or lack of memory
abbrev pub IsLimitsFault : Option LimitsFault → RenumberFault → Type 0
IsLimitsFault found NoNumber = ⊥
IsLimitsFault found (Limits fault) = found ≡ Some fault
IsLimitsFault found Memory = Unit {0}

abbrev pub IsRefused : Config → Accounts → List (List ℕ) → RenumberFault → Type 0
IsRefused config old_users old_groups NoNumber = HasNoNumber config old_users old_groups
IsRefused config old_users old_groups (Limits fault) = HasFault config old_users old_groups fault
IsRefused config old_users old_groups Memory = Unit {0}
