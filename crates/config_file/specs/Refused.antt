-- The first fault of a file: in its tables in their order, with the keys at the top first.
use Rattle.std.specs.Prelude.{◌≡◌, ◌⊎◌, ℕ, ◌+◌, Bool, true, List, take, slice_get, codes, Some, None, Vec}
use Rattle.std.specs.declared.alloc.Global.{Global}
use Rattle.toml.specs.Data.{Members}
use Rattle.toml.specs.View.{table_view, items_view}
use Rattle.config_file.specs.declared.fault.Problem.{Problem}
use Rattle.config_file.specs.declared.fault.Fault.{Fault}
use Rattle.config_file.specs.declared.fault.Fault.TheVariants as fault
use Rattle.config_file.specs.declared.fault.KeyFault.{KeyFault}
use Rattle.config_file.specs.declared.fault.TableName.{TableName}
use Rattle.config_file.specs.declared.fault.TableName.TheVariants as name
use Rattle.config_file.specs.declared.stated.Top.{Top}
use Rattle.config_file.specs.declared.stated.DirTable.{DirTable}
use Rattle.config_file.specs.declared.stated.GroupTable.{GroupTable}
use Rattle.config_file.specs.declared.stated.OverrideTable.{OverrideTable}
use Rattle.config_file.specs.declared.stated.ServerTable.{ServerTable}
use Rattle.config_file.specs.declared.stated.UserTable.{UserTable}
use Rattle.config_file.specs.Keys.{KeyRow, States, IsRefused}
use Rattle.config_file.specs.Lists.{AreRows, IsListFault, Place, place_of, whole}
use Rattle.config_file.specs.TableKeys.{server_rows, server_values, group_rows, group_values, user_rows, user_values, override_rows, dir_rows, dir_values, file_rows}
use Rattle.config_file.specs.Tables.{AreOverrides, is_grouped, top_rows, top_values}

-- the fault of a table that is no row
abbrev pub IsWholeFault : Bool → List KeyRow → TableName → Members → Place → List ℕ → Problem
    → Type 0
IsWholeFault grouped rows name members place key problem =
    (place ≡ whole name) × IsRefused grouped rows members key problem

-- the overrides of the users before one are read, and those of this user are refused
abbrev pub IsOverrideFault : List UserTable → Place → List ℕ → Problem → Type 0
IsOverrideFault users place key problem =
    (index : ℕ) × (user : UserTable) × (read : List (Vec OverrideTable Global))
    × (slice_get users index ≡ Some user) × AreOverrides (take index users) read
    × IsListFault true override_rows (name.Override (index + 1)) (Some user.name.now)
    (codes "override") (items_view user.overrides.now) place key problem

-- each of these is refused, or is read and the next is refused
abbrev pub IsFileFault : Top → Place → List ℕ → Problem → Type 0
IsFileFault top place key problem =
    IsListFault true file_rows name.File None (codes "file")
    (items_view top.files.now) place key problem

abbrev pub IsDirFault : Top → Place → List ℕ → Problem → Type 0
IsDirFault top place key problem =
    IsListFault true dir_rows name.Dir None (codes "dir")
    (items_view top.dirs.now) place key problem
    ⊎ ((dirs : List DirTable) × AreRows true dir_rows dir_values (items_view top.dirs.now) dirs
    × IsFileFault top place key problem)

abbrev pub IsFaultOfOverrides : Top → List UserTable → Place → List ℕ → Problem → Type 0
IsFaultOfOverrides top users place key problem =
    IsOverrideFault users place key problem
    ⊎ ((overrides : List (Vec OverrideTable Global)) × AreOverrides users overrides
    × IsDirFault top place key problem)

abbrev pub IsUserFault : Bool → Top → Place → List ℕ → Problem → Type 0
IsUserFault grouped top place key problem =
    IsListFault grouped user_rows name.User None (codes "user")
    (items_view top.users.now) place key problem
    ⊎ ((users : List UserTable)
    × AreRows grouped user_rows user_values (items_view top.users.now) users
    × IsFaultOfOverrides top users place key problem)

abbrev pub IsGroupFault : Bool → Top → Place → List ℕ → Problem → Type 0
IsGroupFault grouped top place key problem =
    IsListFault true group_rows name.Group None (codes "group")
    (items_view top.groups.now) place key problem
    ⊎ ((groups : List GroupTable)
    × AreRows true group_rows group_values (items_view top.groups.now) groups
    × IsUserFault grouped top place key problem)

abbrev pub IsServerFault : Bool → Top → Place → List ℕ → Problem → Type 0
IsServerFault grouped top place key problem =
    IsWholeFault true server_rows name.Server (table_view top.server.now) place key problem
    ⊎ ((server : ServerTable)
    × States true server_rows (table_view top.server.now) (server_values server)
    × IsGroupFault grouped top place key problem)

-- the first fault of a document: its table, row and name, its key, and the key's problem
abbrev pub IsFirstFault : Members → Place → List ℕ → Problem → Type 0
IsFirstFault document place key problem =
    IsWholeFault (is_grouped document) top_rows name.Top document place key problem
    ⊎ ((top : Top) × States (is_grouped document) top_rows document (top_values top)
    × IsServerFault (is_grouped document) top place key problem)

-- a fault, unless memory ran out
abbrev pub Reports : (Place → List ℕ → Problem → Type 0) → Fault KeyFault → Type 0
Reports Refuses (fault.At header found) = Refuses (place_of header) found.key.now found.problem
Reports Refuses fault.Memory = Unit {0}
