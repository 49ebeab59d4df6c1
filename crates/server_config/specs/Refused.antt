-- The refusals of a configuration, seen from its tables, from its document, and from its text; and
-- the faults that report them.
use Rattle.std.specs.Prelude.{◌≡◌, ◌⊎◌, ℕ, List, Some, None, option_map, string_bytes, IsUtf8}
use Rattle.toml.specs.Data.{Members}
use Rattle.toml.specs.Errors.{IsMemory}
use Rattle.toml.specs.Parse.{parse_document}
use Rattle.toml.specs.declared.de.error.Error.{Error}
use Rattle.authorizer.specs.Numbers.{no_users}
use Rattle.authorizer.specs.Users.{Accounts}
use Rattle.server_config.specs.Groups.{AreApart, AreGrouped, IsProblem}
use Rattle.server_config.specs.declared.group_problem.GroupProblem.{GroupProblem}
use Rattle.server_config.specs.Store.{IsStoreProblem}
use Rattle.server_config.specs.declared.store_problem.StoreProblem.{StoreProblem}
use Rattle.config_file.specs.Lists.{Place, place_of}
use Rattle.config_file.specs.Refused.{IsFirstFault}
use Rattle.config_file.specs.Tables.{IsTables}
use Rattle.config_file.specs.declared.fault.Header.{Header}
use Rattle.config_file.specs.declared.fault.KeyFault.{KeyFault}
use Rattle.config_file.specs.declared.fault.Problem.{Problem}
use Rattle.config_file.specs.declared.fault.Fault.{Fault}
use Rattle.config_file.specs.declared.fault.Fault.TheVariants.{At}
use Rattle.config_file.specs.declared.tables.Tables.{Tables}
use Rattle.server_config.specs.Users.{AddsUsers, IsFirstRefusal}
use Rattle.server_config.specs.declared.user_problem.UserProblem.{UserProblem}
use Rattle.server_config.specs.declared.fault.ConfigFault.{ConfigFault}
use Rattle.server_config.specs.declared.fault.OwnedHeader.{OwnedHeader}
use Rattle.server_config.specs.declared.fault.ConfigFault.TheVariants.{NotToml, Key, BadGroup, BadUser, BadStore, BadDate, TooDeep, TooLong, Memory}

-- the place of a table
abbrev pub owned_place : OwnedHeader → Place
owned_place header =
    record { table = header.table; row = header.row; name = option_map string_bytes header.name }

-- the groups are refused; or they are not, and a user is; or nobody is, and what is served is
-- refused
abbrev pub IsFaultOfTables : Tables → ConfigFault → Type 0
IsFaultOfTables tables (BadGroup header problem) =
    IsProblem tables.groups.items tables.users.items (owned_place header) problem
IsFaultOfTables tables (BadUser header problem) =
    AreApart tables.groups.items × AreGrouped tables.groups.items tables.users.items
    × IsFirstRefusal tables.groups.items tables.users.items tables.overrides.items
    (owned_place header) problem
IsFaultOfTables tables (BadStore header problem) =
    AreApart tables.groups.items × AreGrouped tables.groups.items tables.users.items
    × ((users : Accounts)
    × AddsUsers tables.groups.items tables.users.items tables.overrides.items no_users users)
    × IsStoreProblem tables.server tables.dirs.items tables.files.items (owned_place header) problem
IsFaultOfTables tables Memory = Unit {0}
IsFaultOfTables tables _ = ⊥

-- the fault of a key is the first of the document; or the document states tables, and nothing can
-- be made of them
abbrev pub IsFaultOf : Members → ConfigFault → Type 0
IsFaultOf document (Key header key problem) =
    IsFirstFault document (owned_place header) (string_bytes key.name) problem
IsFaultOf document (NotToml line error) = ⊥
IsFaultOf document BadDate = ⊥
IsFaultOf document TooDeep = ⊥
IsFaultOf document TooLong = ⊥
IsFaultOf document fault =
    (fault ≡ Memory) ⊎ ((tables : Tables) × IsTables document tables × IsFaultOfTables tables fault)

-- the text is no document; or it is one, and the document is refused
abbrev pub IsFaultOfText : List ℕ → ConfigFault → Type 0
IsFaultOfText octets (NotToml line error) = IsUtf8 octets → parse_document octets ≡ None
IsFaultOfText octets fault =
    (fault ≡ Memory)
    ⊎ ((document : Members) × (parse_document octets ≡ Some document) × IsFaultOf document fault)

-- ---- the faults that report refusals

-- the fault of this key
abbrev pub IsKeyFault : Place → List ℕ → Problem → ConfigFault → Type 0
IsKeyFault place name reported (Key header key problem) =
    (owned_place header ≡ place) × (string_bytes key.name ≡ name) × (problem ≡ reported)
IsKeyFault place name reported _ = ⊥

abbrev pub ReportsKey : Fault KeyFault → ConfigFault → Type 0
ReportsKey fault (Key header key problem) =
    (place : Header) × (reported : KeyFault) × (fault ≡ At place reported)
    × IsKeyFault (place_of place) reported.key.now reported.problem (Key header key problem)
ReportsKey fault Memory = Unit {0}
ReportsKey fault _ = ⊥

-- the fault is this problem of this table
pub record IsAt {P : Type 0} (fault : Fault P) (header : OwnedHeader) (problem : P) : Type 0 where
  pub place : Header
  pub is : fault ≡ At place problem
  pub same : owned_place header ≡ place_of place

abbrev pub ReportsGroup : Fault GroupProblem → ConfigFault → Type 0
ReportsGroup fault (BadGroup header problem) = IsAt fault header problem
ReportsGroup fault Memory = Unit {0}
ReportsGroup fault _ = ⊥

abbrev pub ReportsUser : Fault UserProblem → ConfigFault → Type 0
ReportsUser fault (BadUser header problem) = IsAt fault header problem
ReportsUser fault Memory = Unit {0}
ReportsUser fault _ = ⊥

abbrev pub ReportsStore : Fault StoreProblem → ConfigFault → Type 0
ReportsStore fault (BadStore header problem) = IsAt fault header problem
ReportsStore fault Memory = Unit {0}
ReportsStore fault _ = ⊥

abbrev pub ReportsText : Error → ConfigFault → Type 0
ReportsText error (NotToml place problem) = IsMemory error → ⊥
ReportsText error Memory = Unit {0}
ReportsText error _ = ⊥
