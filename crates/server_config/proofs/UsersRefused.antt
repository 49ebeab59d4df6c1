-- Users and overrides that are refused, after those that were added.
use Rattle.std.proofs.Common.{◌≡◌, ◌≢◌, ℕ, ◌+◌, ◌<◌, List, length, take, get_or, Option, Some, Result, Ok, Err, IfErr, Vec, Global, sym, subst, inr}
use Rattle.memory_terms.specs.Lack.{Unless}
use Rattle.authorizer.specs.Changes.{added, with_messages}
use Rattle.authorizer.specs.Numbers.{no_users}
use Rattle.authorizer.specs.Users.{Accounts}
use Rattle.authorizer.specs.declared.fault.AuthorizerFault.{AuthorizerFault}
use Rattle.server_config.specs.Groups.{group_in}
use Rattle.config_file.specs.declared.stated.GroupTable.{GroupTable}
use Rattle.config_file.specs.declared.stated.UserTable.{UserTable}
use Rattle.config_file.specs.declared.stated.OverrideTable.{OverrideTable}
use Rattle.server_config.proofs.UsersAdded.{GroupIsSet}
use Rattle.server_config.specs.UserProblems.{IsReportedAs}
use Rattle.server_config.specs.declared.user_problem.UserProblem.{UserProblem}
use Rattle.server_config.specs.Users.{AddsAccount, AddsUsers, IsRefusedRule, IsRefusedAccount, IsRefusedUser, IsFirstRefusal}
use Rattle.server_config.proofs.GroupsRefused.{stands_at}
use Rattle.config_file.specs.declared.fault.Fault.{Fault}
use Rattle.config_file.specs.declared.fault.Fault.TheVariants.{At, Memory}
use Rattle.config_file.specs.Lists.{FaultIs, Place, place_of, row_at}
use Rattle.config_file.specs.declared.fault.TableName.{TableName}
use Rattle.config_file.specs.declared.fault.TableName.TheVariants as TableName

-- what the authorizer refuses, in its place and with its problem
pub reported_as : (Refuses : Place → UserProblem → Type 0) (table : TableName) (index : ℕ) (name letters : List ℕ) (fault : AuthorizerFault) (answer : Fault UserProblem)
    → FaultIs (λ at reported. (at ≡ row_at table index (Some name)) × IsReportedAs letters fault reported × (fault ≢ AuthorizerFault.Memory)) answer
    → ((problem : UserProblem) → fault ≢ AuthorizerFault.Memory → IsReportedAs letters fault problem → Refuses (row_at table index (Some name)) problem) → FaultIs Refuses answer
reported_as Refuses table index name letters fault (At header reported) is refuses =
    subst (λ at. Refuses at reported) (sym is.0) (refuses reported is.2 is.1)
reported_as Refuses table index name letters fault Memory is refuses = tt

reported_more : (First Second : Place → UserProblem → Type 0) → ((place : Place) (problem : UserProblem) → First place problem → Second place problem)
    → (answer : Fault UserProblem) → FaultIs First answer → FaultIs Second answer
reported_more First Second more (At header fault) is = more (place_of header) fault is
reported_more First Second more Memory is = tt

pub group_refused : (group : Option ℕ) (user : UserTable) (old named greeted new : Accounts) (answer : Result (Unit {0}) AuthorizerFault)
    → added old user.name.now user.password.now user.home.now user.perms.now ≡ Ok named → with_messages named user.name.now user.msg_login.now user.msg_quit.now ≡ Ok greeted
    → GroupIsSet group user greeted answer new → IfErr answer (Unless AuthorizerFault.Memory (IsRefusedAccount group user old))
group_refused group user old named greeted new (Ok done) is_named is_greeted is = tt
group_refused group user old named greeted new (Err fault) is_named is_greeted is = λ _. inr (named, is_named, inr (greeted, is_greeted, is.1))

pub rules_refused : (index : ℕ) (group : Option ℕ) (user : UserTable) (rules : List OverrideTable) (old mid : Accounts) (answer : Result (Unit {0}) (Fault UserProblem))
    → AddsAccount group user old mid → IfErr answer (FaultIs (IsRefusedRule (index + 1) user.name.now rules mid)) → IfErr answer (FaultIs (IsRefusedUser index group user rules old))
rules_refused index group user rules old mid (Ok done) adds is = tt
rules_refused index group user rules old mid (Err fault) adds is =
    reported_more (IsRefusedRule (index + 1) user.name.now rules mid) (IsRefusedUser index group user rules old) (λ p f refused. inr (mid, adds, refused)) fault is

pub user_refused : (groups : List GroupTable) (users : List UserTable) (overrides : List (Vec OverrideTable Global)) (i : ℕ) (user : UserTable) (rules : Vec OverrideTable Global)
    (items : List OverrideTable) (group : Option ℕ) (mid : Accounts) (answer : Fault UserProblem)
    → i < length users → i < length overrides → user ≡ get_or users i user → rules ≡ get_or overrides i rules → items ≡ rules.items → group ≡ group_in groups user.group
    → AddsUsers groups (take i users) (take i overrides) no_users mid → FaultIs (IsRefusedUser i group user items mid) answer → FaultIs (IsFirstRefusal groups users overrides) answer
user_refused groups users overrides i user rules items group mid answer within inside at has are in_group before is =
    reported_more (IsRefusedUser i group user items mid) (IsFirstRefusal groups users overrides)
    (λ place fault refused. record {
      index = i;
      user = user;
      rules = rules;
      mid = mid;
      stands = stands_at users i user within at;
      has = stands_at overrides i rules inside has;
      before = before;
      refused = subst (λ (g : Option ℕ). IsRefusedUser i g user rules.items mid place fault) in_group
          (subst (λ (rs : List OverrideTable). IsRefusedUser i group user rs mid place fault) are refused);
    }) answer is
