-- The users of a file, added in its order, each by the calls of the authorizer.
use Rattle.std.specs.Prelude.{◌≡◌, ◌⊎◌, ℕ, ◌+◌, List, [], ◌∷◌, take, slice_get, Option, Some, Ok, Err, Vec}
use Rattle.std.specs.declared.alloc.Global.{Global}
use Rattle.authorizer.specs.Numbers.{no_users}
use Rattle.authorizer.specs.Users.{Accounts}
use Rattle.authorizer.specs.declared.fault.AuthorizerFault.{AuthorizerFault}
use Rattle.authorizer.specs.Changes.{added, overridden, with_messages, with_group}
use Rattle.server_config.specs.Groups.{group_in}
use Rattle.config_file.specs.declared.stated.GroupTable.{GroupTable}
use Rattle.config_file.specs.declared.stated.UserTable.{UserTable}
use Rattle.config_file.specs.declared.stated.OverrideTable.{OverrideTable}
use Rattle.config_file.specs.declared.fault.TableName.TheVariants as TableName
use Rattle.config_file.specs.Lists.{Place, row_at}
use Rattle.server_config.specs.UserProblems.{IsReportedAs}
use Rattle.server_config.specs.declared.user_problem.UserProblem.{UserProblem}

-- an override of a user
abbrev pub AddsRule : List ℕ → OverrideTable → Accounts → Accounts → Type 0
AddsRule name rule old new =
    overridden old name rule.path.now rule.perms.now rule.recursive ≡ Ok new

-- overrides of a user, one after another
abbrev pub AddsRules : List ℕ → List OverrideTable → Accounts → Accounts → Type 0
AddsRules name [] old new = new ≡ old
AddsRules name (rule ∷ rules) old new =
    (next : Accounts) × AddsRule name rule old next × AddsRules name rules next new

-- a user, with name, password, home and letters, then the messages, and then the group
pub record AddsAccount (group : Option ℕ) (user : UserTable) (old new : Accounts) : Type 0 where
  pub named : Accounts
  pub greeted : Accounts
  pub is_named : added old user.name.now user.password.now user.home.now user.perms.now ≡ Ok named
  pub is_greeted : with_messages named user.name.now user.msg_login.now user.msg_quit.now
      ≡ Ok greeted
  pub is_grouped : with_group greeted user.name.now group ≡ Ok new

-- and then the overrides
abbrev pub AddsUser : Option ℕ → UserTable → List OverrideTable → Accounts → Accounts → Type 0
AddsUser group user rules old new =
    (next : Accounts) × AddsAccount group user old next × AddsRules user.name.now rules next new

-- users with their overrides, one after another
abbrev pub AddsUsers : List GroupTable → List UserTable → List (Vec OverrideTable Global) → Accounts
    → Accounts → Type 0
AddsUsers groups [] [] old new = new ≡ old
AddsUsers groups (user ∷ users) (rules ∷ more) old new =
    (next : Accounts) × AddsUser (group_in groups user.group) user rules.items old next
    × AddsUsers groups users more next new
AddsUsers groups _ _ old new = ⊥

-- ---- refusals

-- the overrides before one are made, and that one is refused; the row of the user counts from 1
pub record IsRefusedRule (user : ℕ) (name : List ℕ) (rules : List OverrideTable) (old : Accounts)
    (at : Place) (problem : UserProblem) : Type 0 where
  pub index : ℕ
  pub rule : OverrideTable
  pub mid : Accounts
  pub stands : slice_get rules index ≡ Some rule
  pub before : AddsRules name (take index rules) old mid
  pub fault : AuthorizerFault
  pub refused : overridden mid name rule.path.now rule.perms.now rule.recursive ≡ Err fault
  pub reported : IsReportedAs rule.perms.now fault problem
  pub place : at ≡ row_at (TableName.Override user) index (Some name)

-- a user is refused; or otherwise the messages; or otherwise the group
abbrev pub IsRefusedAccount : Option ℕ → UserTable → Accounts → AuthorizerFault → Type 0
IsRefusedAccount group user old fault =
    (added old user.name.now user.password.now user.home.now user.perms.now ≡ Err fault)
    ⊎ ((named : Accounts)
    × (added old user.name.now user.password.now user.home.now user.perms.now ≡ Ok named)
    × ((with_messages named user.name.now user.msg_login.now user.msg_quit.now ≡ Err fault)
    ⊎ ((greeted : Accounts)
    × (with_messages named user.name.now user.msg_login.now user.msg_quit.now ≡ Ok greeted)
    × (with_group greeted user.name.now group ≡ Err fault))))

-- the user at an index is refused, or otherwise one of their overrides
abbrev pub IsRefusedUser : ℕ → Option ℕ → UserTable → List OverrideTable → Accounts → Place
    → UserProblem → Type 0
IsRefusedUser index group user rules old place problem =
    ((place ≡ row_at TableName.User index (Some user.name.now))
    × ((fault : AuthorizerFault) × IsRefusedAccount group user old fault
    × IsReportedAs user.perms.now fault problem))
    ⊎ ((next : Accounts) × AddsAccount group user old next
    × IsRefusedRule (index + 1) user.name.now rules next place problem)

-- the users before one are added, and that one is refused
pub record IsFirstRefusal (groups : List GroupTable) (users : List UserTable)
    (overrides : List (Vec OverrideTable Global)) (at : Place)
    (problem : UserProblem) : Type 0 where
  pub index : ℕ
  pub user : UserTable
  pub rules : Vec OverrideTable Global
  pub mid : Accounts
  pub stands : slice_get users index ≡ Some user
  pub has : slice_get overrides index ≡ Some rules
  pub before : AddsUsers groups (take index users) (take index overrides) no_users mid
  pub refused : IsRefusedUser index (group_in groups user.group) user rules.items mid at problem
