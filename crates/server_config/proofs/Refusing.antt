-- What refuses a configuration: seen from its tables, from its document, and from its text.
use Rattle.std.proofs.Common.{◌≡◌, ℕ, List, Vec, Global, Some, Result, Ok, Err, IfErr, refl, sym, subst, inl, inr}
use Rattle.authorizer.specs.Numbers.{no_users}
use Rattle.authorizer.specs.Users.{Accounts}
use Rattle.toml.specs.Data.{Members}
use Rattle.toml.specs.Parse.{parse_document}
use Rattle.server_config.specs.declared.user_problem.UserProblem.{UserProblem}
use Rattle.server_config.specs.Groups.{AreApart, AreGrouped, IsFault, IsProblem}
use Rattle.server_config.specs.declared.group_problem.GroupProblem.{GroupProblem}
use Rattle.server_config.specs.Store.{IsStoreProblem}
use Rattle.server_config.specs.declared.store_problem.StoreProblem.{StoreProblem}
use Rattle.config_file.specs.Refused.{IsFirstFault, Reports as Reports_table}
use Rattle.config_file.specs.declared.fault.Fault.{Fault}
use Rattle.config_file.specs.declared.fault.KeyFault.{KeyFault}
use Rattle.config_file.specs.Lists.{FaultIs, Place}
use Rattle.config_file.specs.Tables.{IsTables}
use Rattle.config_file.specs.declared.stated.DirTable.{DirTable}
use Rattle.config_file.specs.declared.stated.FileTable.{FileTable}
use Rattle.config_file.specs.declared.stated.GroupTable.{GroupTable}
use Rattle.config_file.specs.declared.stated.OverrideTable.{OverrideTable}
use Rattle.config_file.specs.declared.stated.UserTable.{UserTable}
use Rattle.config_file.specs.declared.tables.Tables.{Tables}
use Rattle.server_config.specs.Users.{AddsUsers, IsFirstRefusal}
use Rattle.server_config.specs.Refused.{IsAt, IsFaultOf, IsFaultOfTables, IsFaultOfText, ReportsGroup, ReportsKey, ReportsStore, ReportsUser, owned_place}
use Rattle.server_config.specs.declared.config.Config.{Config}
use Rattle.server_config.specs.declared.fault.ConfigFault.{ConfigFault}
use Rattle.server_config.specs.declared.fault.OwnedHeader.{OwnedHeader}
use Rattle.server_config.specs.declared.fault.ConfigFault.TheVariants.{NotToml, Key, BadGroup, BadUser, BadStore, BadDate, TooDeep, TooLong, Memory}
use Rattle.server_config.proofs.Making.{moved, moved_all}

-- what is true of a fault is true of its table
at_place : {P : Type 0} (Is : Place → P → Type 0) (fault : Fault P) (header : OwnedHeader) (problem : P) → FaultIs Is fault → IsAt fault header problem → Is (owned_place header) problem
at_place Is fault header problem is at = subst (λ place. Is place problem) (sym at.same) (subst (FaultIs Is) at.is is)

-- groups are refused
pub groups_refused : (tables : Tables) (gs : List GroupTable) (us : List UserTable) (fault : Fault GroupProblem) (answer : ConfigFault)
    → gs ≡ tables.groups.items → us ≡ tables.users.items → IsFault gs us fault → ReportsGroup fault answer → IsFaultOfTables tables answer
groups_refused tables gs us fault (BadGroup header problem) same_groups same_users refused reported =
    moved (λ (g : List GroupTable) (u : List UserTable). IsProblem g u (owned_place header) problem) gs tables.groups.items us tables.users.items
    same_groups same_users (at_place (IsProblem gs us) fault header problem refused reported)
groups_refused tables gs us fault (NotToml line error) same_groups same_users refused reported = absurd reported
groups_refused tables gs us fault (Key header key problem) same_groups same_users refused reported = absurd reported
groups_refused tables gs us fault (BadUser header problem) same_groups same_users refused reported = absurd reported
groups_refused tables gs us fault (BadStore header problem) same_groups same_users refused reported = absurd reported
groups_refused tables gs us fault BadDate same_groups same_users refused reported = absurd reported
groups_refused tables gs us fault TooDeep same_groups same_users refused reported = absurd reported
groups_refused tables gs us fault TooLong same_groups same_users refused reported = absurd reported
groups_refused tables gs us fault Memory same_groups same_users refused reported = tt

-- a user is refused, and groups are not
pub users_refused : (tables : Tables) (gs : List GroupTable) (us : List UserTable) (os : List (Vec OverrideTable Global)) (fault : Fault UserProblem) (answer : ConfigFault)
    → gs ≡ tables.groups.items → us ≡ tables.users.items → os ≡ tables.overrides.items → AreApart gs → AreGrouped gs us
    → FaultIs (IsFirstRefusal gs us os) fault → ReportsUser fault answer → IsFaultOfTables tables answer
users_refused tables gs us os fault (BadUser header problem) same_groups same_users same_rules apart grouped refused reported = (
  subst (λ (g : List GroupTable). AreApart g) same_groups apart,
  moved (λ (g : List GroupTable) (u : List UserTable). AreGrouped g u) gs tables.groups.items us tables.users.items same_groups same_users grouped,
  moved_all (λ (g : List GroupTable) (u : List UserTable) (o : List (Vec OverrideTable Global)). IsFirstRefusal g u o (owned_place header) problem)
      gs tables.groups.items us tables.users.items os tables.overrides.items same_groups same_users same_rules
      (at_place (IsFirstRefusal gs us os) fault header problem refused reported),
)
users_refused tables gs us os fault (NotToml line error) same_groups same_users same_rules apart grouped refused reported = absurd reported
users_refused tables gs us os fault (Key header key problem) same_groups same_users same_rules apart grouped refused reported = absurd reported
users_refused tables gs us os fault (BadGroup header problem) same_groups same_users same_rules apart grouped refused reported = absurd reported
users_refused tables gs us os fault (BadStore header problem) same_groups same_users same_rules apart grouped refused reported = absurd reported
users_refused tables gs us os fault BadDate same_groups same_users same_rules apart grouped refused reported = absurd reported
users_refused tables gs us os fault TooDeep same_groups same_users same_rules apart grouped refused reported = absurd reported
users_refused tables gs us os fault TooLong same_groups same_users same_rules apart grouped refused reported = absurd reported
users_refused tables gs us os fault Memory same_groups same_users same_rules apart grouped refused reported = tt

-- what is served is refused, and groups and users are not
pub store_refused : (tables : Tables) (ds : List DirTable) (fs : List FileTable) (users : Accounts) (fault : Fault StoreProblem) (answer : ConfigFault)
    → ds ≡ tables.dirs.items → fs ≡ tables.files.items → AreApart tables.groups.items → AreGrouped tables.groups.items tables.users.items
    → AddsUsers tables.groups.items tables.users.items tables.overrides.items no_users users
    → FaultIs (IsStoreProblem tables.server ds fs) fault → ReportsStore fault answer → IsFaultOfTables tables answer
store_refused tables ds fs users fault (BadStore header problem) same_dirs same_files apart grouped adds refused reported = (
  apart,
  grouped,
  (users, adds),
  moved (λ (d : List DirTable) (f : List FileTable). IsStoreProblem tables.server d f (owned_place header) problem) ds tables.dirs.items fs tables.files.items
      same_dirs same_files (at_place (IsStoreProblem tables.server ds fs) fault header problem refused reported),
)
store_refused tables ds fs users fault (NotToml line error) same_dirs same_files apart grouped adds refused reported = absurd reported
store_refused tables ds fs users fault (Key header key problem) same_dirs same_files apart grouped adds refused reported = absurd reported
store_refused tables ds fs users fault (BadGroup header problem) same_dirs same_files apart grouped adds refused reported = absurd reported
store_refused tables ds fs users fault (BadUser header problem) same_dirs same_files apart grouped adds refused reported = absurd reported
store_refused tables ds fs users fault BadDate same_dirs same_files apart grouped adds refused reported = absurd reported
store_refused tables ds fs users fault TooDeep same_dirs same_files apart grouped adds refused reported = absurd reported
store_refused tables ds fs users fault TooLong same_dirs same_files apart grouped adds refused reported = absurd reported
store_refused tables ds fs users fault Memory same_dirs same_files apart grouped adds refused reported = tt

-- tables that a document states, and of which nothing can be made
pub tables_refused : (document : Members) (tables : Tables) (answer : Result Config ConfigFault) → IsTables document tables
    → IfErr answer (IsFaultOfTables tables) → IfErr answer (IsFaultOf document)
tables_refused document tables (Ok config) stated is = tt
tables_refused document tables (Err (NotToml line error)) stated is = absurd is
tables_refused document tables (Err (Key header key problem)) stated is = absurd is
tables_refused document tables (Err BadDate) stated is = absurd is
tables_refused document tables (Err TooDeep) stated is = absurd is
tables_refused document tables (Err TooLong) stated is = absurd is
tables_refused document tables (Err (BadGroup header problem)) stated is = inr (tables, stated, is)
tables_refused document tables (Err (BadUser header problem)) stated is = inr (tables, stated, is)
tables_refused document tables (Err (BadStore header problem)) stated is = inr (tables, stated, is)
tables_refused document tables (Err Memory) stated is = inl refl

-- a document that a text is, and which is refused
pub document_refused : (octets : List ℕ) (document : Members) (fault : ConfigFault) → parse_document octets ≡ Some document → IsFaultOf document fault → IsFaultOfText octets fault
document_refused octets document (NotToml line error) parsed is = absurd is
document_refused octets document BadDate parsed is = absurd is
document_refused octets document TooDeep parsed is = absurd is
document_refused octets document TooLong parsed is = absurd is
document_refused octets document (Key header key problem) parsed is = inr (document, parsed, is)
document_refused octets document (BadGroup header problem) parsed is = inr (document, parsed, is)
document_refused octets document (BadUser header problem) parsed is = inr (document, parsed, is)
document_refused octets document (BadStore header problem) parsed is = inr (document, parsed, is)
document_refused octets document Memory parsed is = inl refl

pub text_refused : (octets : List ℕ) (document : Members) (answer : Result Config ConfigFault) → parse_document octets ≡ Some document
    → IfErr answer (IsFaultOf document) → IfErr answer (IsFaultOfText octets)
text_refused octets document (Ok config) parsed is = tt
text_refused octets document (Err fault) parsed is = document_refused octets document fault parsed is

-- the first fault of a document is told
pub key_refused : (document : Members) (fault : Fault KeyFault) (answer : ConfigFault) → Reports_table (IsFirstFault document) fault → ReportsKey fault answer → IsFaultOf document answer
key_refused document fault (Key header key problem) first reported =
    let here = subst (Reports_table (IsFirstFault document)) reported.2 first in
    rw (reported.3.0, reported.3.1, reported.3.2) here
key_refused document fault (NotToml line error) first reported = absurd reported
key_refused document fault (BadGroup header problem) first reported = absurd reported
key_refused document fault (BadUser header problem) first reported = absurd reported
key_refused document fault (BadStore header problem) first reported = absurd reported
key_refused document fault BadDate first reported = absurd reported
key_refused document fault TooDeep first reported = absurd reported
key_refused document fault TooLong first reported = absurd reported
key_refused document fault Memory first reported = inl refl
