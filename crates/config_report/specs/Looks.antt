-- The things that a report sees of the machine, and of the store.
use Rattle.std.specs.Prelude.{◌≡◌, ℕ, Bool, false, true, List, [], Option, Some, None, Result, Ok, Err, Vec, length, slice_get, string_bytes}
use Rattle.std.specs.declared.alloc.Global.{Global}
use Rattle.ftp_terms.specs.declared.entries.EntryKind.{EntryKind}
use Rattle.ftp_terms.specs.declared.entries.EntryKind.TheVariants as kind
use Rattle.virtual_path.specs.Path.{Path, resolved}
use Rattle.virtual_path.specs.declared.fault.PathFault.{PathFault}
use Rattle.memory_store.specs.InMemory.{Memory, kind_at}
use Rattle.config_file.specs.declared.stated.OverrideTable.{OverrideTable}
use Rattle.config_file.specs.declared.stated.UserTable.{UserTable}
use Rattle.server_config.specs.declared.store.ServedStore.{ServedStore}
use Rattle.server_config.specs.declared.store.ServedStore.TheVariants as served
use Rattle.config_report.specs.declared.looks.Sight.{Sight}
use Rattle.config_report.specs.declared.seen.Seen.{Seen}
use Rattle.config_report.specs.declared.seen.SeenUser.{SeenUser}

-- The possible results of looks: what is at the path of a folder; whether a home is a directory of
-- the folder of a path; and the permission bits of the file of a path.
pub record Shown : Type 1 where
  pub folder : List ℕ → Sight → Type 0
  pub home : List ℕ → Path → Bool → Type 0
  pub mode : List ℕ → Option ℕ → Type 0

-- every result is possible
abbrev pub anything : Shown
anything = record {
  folder = λ path sight. Unit {0};
  home = λ root home has. Unit {0};
  mode = λ path bits. Unit {0};
}

-- ---- homes

abbrev pub is_directory_kind : Option EntryKind → Bool
is_directory_kind None = false
is_directory_kind (Some kind.Directory) = true
is_directory_kind (Some kind.File) = false

abbrev pub is_directory : Memory → Path → Bool
is_directory store path = is_directory_kind (kind_at store.tree path)

-- a text is the path of a directory of a store in memory
abbrev pub is_home : Memory → Result Path PathFault → Bool
is_home store (Ok path) = is_directory store path
is_home store (Err fault) = false

-- a text is the path of a directory of a folder, as the machine shows it
abbrev pub IsHomeShown : Shown → List ℕ → Result Path PathFault → Bool → Type 0
IsHomeShown shown root (Ok path) has = shown.home root path has
IsHomeShown shown root (Err fault) has = has ≡ false

-- whether a home is a directory of the store
abbrev pub HasHome : Shown → ServedStore → List ℕ → Bool → Type 0
HasHome shown (served.Memory store) home has = has ≡ is_home store (resolved [] home)
HasHome shown (served.Folder root) home has =
    IsHomeShown shown (string_bytes root) (resolved [] home) has

-- ---- the root

-- this is at the root, if it is a folder
abbrev pub IsRootSeen : Shown → ServedStore → Option Sight → Type 0
IsRootSeen shown (served.Memory store) seen = seen ≡ None
IsRootSeen shown (served.Folder root) None = ⊥
IsRootSeen shown (served.Folder root) (Some sight) = shown.folder (string_bytes root) sight

-- ---- all

-- the row of the user at a place, with the overrides of that user
abbrev pub IsRowOf : Shown → ServedStore → List UserTable → List (Vec OverrideTable Global) → ℕ
    → SeenUser → Type 0
IsRowOf shown store users overrides i row =
    (user : UserTable) × (rules : Vec OverrideTable Global)
    × (slice_get users i ≡ Some user) × (slice_get overrides i ≡ Some rules)
    × (row.user.now ≡ user) × (row.overrides.now ≡ rules.items)
    × HasHome shown store user.home.now row.has_home

-- a row for each user, in their order
abbrev pub AreRows : Shown → ServedStore → List UserTable → List (Vec OverrideTable Global)
    → List SeenUser → Type 0
AreRows shown store users overrides rows =
    (length rows ≡ length users)
    × ((i : ℕ) (row : SeenUser) → slice_get rows i ≡ Some row
    → IsRowOf shown store users overrides i row)

-- this is seen for a configuration, whose file has that path
abbrev pub IsSeen : Shown → List ℕ → ServedStore → List UserTable → List (Vec OverrideTable Global)
    → Seen → Type 0
IsSeen shown path store users overrides seen =
    IsRootSeen shown store seen.root
    × AreRows shown store users overrides seen.users.items × shown.mode path seen.mode
