-- A configuration: the tables that its text states, key by key, and the values that are made of
-- them.
use Rattle.std.specs.Prelude.{◌≡◌, ◌≤◌, ℕ, List, Some, map, string_bytes}
use Rattle.std.specs.List.{AllByRecursion}
use Rattle.toml.specs.Data.{Members}
use Rattle.toml.specs.Parse.{parse_document}
use Rattle.authorizer.specs.Numbers.{no_users}
use Rattle.server_config.specs.Groups.{AreApart, HasGroup}
use Rattle.server_config.specs.RateRows.{rates_of}
use Rattle.server_config.specs.Store.{IsStoreOf}
use Rattle.config_file.specs.Tables.{IsTables}
use Rattle.config_file.specs.declared.stated.GroupTable.{GroupTable}
use Rattle.config_file.specs.declared.tables.Tables.{Tables}
use Rattle.server_config.specs.Users.{AddsUsers}
use Rattle.server_config.specs.Settings.{AreSettings, AreNumbers}
use Rattle.server_config.specs.declared.config.Config.{Config}

abbrev pub group_name : GroupTable → List ℕ
group_name group = group.name.now

-- the configuration that the tables of a file make
pub record IsMadeOf (tables : Tables) (config : Config) : Type 0 where
  pub settings : AreSettings tables.server config.settings
  pub numbers : AreNumbers tables.server config.numbers
  pub ports : tables.server.passive_first ≤ tables.server.passive_last
  pub groups_apart : AreApart tables.groups.items
  pub users_grouped : AllByRecursion
      (λ user. HasGroup tables.groups.items user.group) tables.users.items
  pub users : AddsUsers tables.groups.items tables.users.items tables.overrides.items no_users
      config.users
  pub store : IsStoreOf tables.server tables.dirs.items tables.files.items config.store
  pub limits : config.limits ≡ rates_of tables.server tables.groups.items tables.users.items
  pub group_names : map string_bytes config.groups.items ≡ map group_name tables.groups.items

-- the document states tables, and the configuration is made of them
abbrev pub IsConfig : Members → Config → Type 0
IsConfig document config = (tables : Tables) × IsTables document tables × IsMadeOf tables config

-- the same of the document that a text is
abbrev pub IsConfigText : List ℕ → Config → Type 0
IsConfigText octets config =
    (document : Members) × (parse_document octets ≡ Some document) × IsConfig document config
