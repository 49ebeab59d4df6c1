-- The tables of a file and all their values.
use Rattle.std.specs.Prelude.{◌≡◌, Bool, true, false, not, nat_eq, pos, List, [], ◌∷◌, codes, Option, Some, Vec}
use Rattle.std.specs.declared.alloc.Global.{Global}
use Rattle.toml.specs.Data.{Data, integer, Members, get_member}
use Rattle.toml.specs.View.{table_view, items_view}
use Rattle.config_file.specs.declared.fault.TableName.{TableName}
use Rattle.config_file.specs.declared.fault.TableName.TheVariants as name
use Rattle.config_file.specs.declared.keys.TheConstants.{LATEST_VERSION}
use Rattle.config_file.specs.declared.kind.KeyKind.TheVariants.{Number, Table}
use Rattle.config_file.specs.declared.stated.Top.{Top}
use Rattle.config_file.specs.declared.stated.UserTable.{UserTable}
use Rattle.config_file.specs.declared.stated.OverrideTable.{OverrideTable}
use Rattle.config_file.specs.declared.tables.Tables.{Tables}
use Rattle.config_file.specs.Keys.{KeyRow, needed, States}
use Rattle.config_file.specs.Lists.{AreRows}
use Rattle.config_file.specs.TableKeys.{list_row, server_rows, server_values, group_rows, group_values, user_rows, user_values, override_rows, override_values, dir_rows, dir_values, file_rows, file_values}
use Rattle.config_file.specs.Values.{Held, number, inner, items}

abbrev pub is_first : Option Data → Bool
is_first (Some (integer (pos n))) = nat_eq n 1
is_first _ = false

-- a file of version 1 has no groups
abbrev pub is_grouped : Members → Bool
is_grouped document = not (is_first (get_member (codes "version") document))

-- ---- above all tables

abbrev pub top_rows : List KeyRow
top_rows =
    needed (codes "version") (Number 1 LATEST_VERSION)
    ∷ needed (codes "server") Table
    ∷ list_row (codes "group")
    ∷ list_row (codes "user")
    ∷ list_row (codes "dir")
    ∷ list_row (codes "file")
    ∷ []

abbrev pub top_values : Top → List Held
top_values top =
    number top.version
    ∷ inner (table_view top.server.now)
    ∷ items (items_view top.groups.now)
    ∷ items (items_view top.users.now)
    ∷ items (items_view top.dirs.now)
    ∷ items (items_view top.files.now)
    ∷ []

-- ---- all tables

abbrev pub table_rows : TableName → List KeyRow
table_rows name.Top = top_rows
table_rows name.Server = server_rows
table_rows name.Group = group_rows
table_rows name.User = user_rows
table_rows (name.Override user) = override_rows
table_rows name.Dir = dir_rows
table_rows name.File = file_rows

-- the overrides of each user
abbrev pub AreOverrides : List UserTable → List (Vec OverrideTable Global) → Type 0
AreOverrides [] [] = Unit {0}
AreOverrides (user ∷ users) (rules ∷ more) =
    AreRows true override_rows override_values (items_view user.overrides.now) rules.items
    × AreOverrides users more
AreOverrides _ _ = ⊥

-- the tables have the values of the document, which has no other key
pub record IsTables (document : Members) (tables : Tables) : Type 0 where
  pub top : Top
  pub stated : States (is_grouped document) top_rows document (top_values top)
  pub version : tables.version ≡ top.version
  pub server : States true server_rows (table_view top.server.now) (server_values tables.server)
  pub groups : AreRows true group_rows group_values (items_view top.groups.now) tables.groups.items
  pub users : AreRows (is_grouped document) user_rows user_values
      (items_view top.users.now) tables.users.items
  pub overrides : AreOverrides tables.users.items tables.overrides.items
  pub dirs : AreRows true dir_rows dir_values (items_view top.dirs.now) tables.dirs.items
  pub files : AreRows true file_rows file_values (items_view top.files.now) tables.files.items
