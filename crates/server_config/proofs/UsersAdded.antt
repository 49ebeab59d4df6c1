-- Users and overrides that are added one after another.
use Rattle.std.proofs.Common.{◌≡◌, ℕ, Option, Result, Err, MatchResult, OnOk, zero, suc, ◌+◌, ◌<◌, List, [], ◌∷◌, ◌++◌, length, take, get_or, Ok, Vec, Global, refl, sym, ap, subst, ◌∙◌, arith}
use Rattle.std.proofs.lemmas.List.{take_more}
use Rattle.authorizer.specs.Changes.{added, with_messages, with_group}
use Rattle.authorizer.specs.declared.fault.AuthorizerFault.{AuthorizerFault}
use Rattle.authorizer.specs.Users.{Accounts}
use Rattle.server_config.specs.Groups.{group_in}
use Rattle.server_config.specs.RateRows.{numbered, user_row, user_rows}
use Rattle.config_file.specs.declared.stated.GroupTable.{GroupTable}
use Rattle.config_file.specs.declared.stated.UserTable.{UserTable}
use Rattle.config_file.specs.declared.stated.OverrideTable.{OverrideTable}
use Rattle.server_config.specs.Users.{AddsRule, AddsRules, AddsAccount, AddsUser, AddsUsers}
use Rattle.line_rates.specs.declared.row.UserRate.{UserRate}
use Rattle.config_file.specs.declared.fault.Fault.{Fault}
use Rattle.server_config.specs.declared.user_problem.UserProblem.{UserProblem}

-- ---- overrides

rules-more : (name : List ℕ) (rules : List OverrideTable) (rule : OverrideTable) (old mid new : Accounts) → AddsRules name rules old mid
    → AddsRule name rule mid new → AddsRules name (rules ++ rule ∷ []) old new
rules-more name [] rule old mid new before is =
    (new, subst (λ (m : Accounts). AddsRule name rule m new) before is, refl)
rules-more name (r ∷ rules) rule old mid new before is = (before.0, before.1, rules-more name rules rule before.0 mid new before.2 is)

pub rules-next : (name : List ℕ) (rules : List OverrideTable) (i : ℕ) (rule other : OverrideTable) (old mid new : Accounts) → i < length rules → rule ≡ get_or rules i other
    → AddsRules name (take i rules) old mid → AddsRule name rule mid new → AddsRules name (take (i + 1) rules) old new
rules-next name rules i rule other old mid new within at before is =
    subst (λ rs. AddsRules name rs old new) (ap (λ r. take i rules ++ r ∷ []) at ∙ sym (take_more rules i other within)) (rules-more name (take i rules) rule old mid new before is)

-- ---- users

-- a user is put into a group, or that is refused
abbrev pub GroupIsSet : Option ℕ → UserTable → Accounts → Result (Unit {0}) AuthorizerFault → Accounts → Type 0
GroupIsSet group user old answer new =
    MatchResult answer (λ _. with_group old user.name.now group ≡ Ok new) (λ fault. (new ≡ old) × (with_group old user.name.now group ≡ Err fault))

-- a user who was added, greeted and put into a group
pub account : (group : Option ℕ) (user : UserTable) (old named greeted new : Accounts) (answer : Result (Unit {0}) AuthorizerFault)
    → added old user.name.now user.password.now user.home.now user.perms.now ≡ Ok named → with_messages named user.name.now user.msg_login.now user.msg_quit.now ≡ Ok greeted
    → GroupIsSet group user greeted answer new → OnOk answer (AddsAccount group user old new)
account group user old named greeted new (Ok done) is_named is_greeted is_grouped =
    record { named = named; greeted = greeted; is_named = is_named; is_greeted = is_greeted; is_grouped = is_grouped }
account group user old named greeted new (Err fault) is_named is_greeted is_grouped = tt

users-more : (groups : List GroupTable) (users : List UserTable) (overrides : List (Vec OverrideTable Global)) (user : UserTable) (rules : Vec OverrideTable Global) (old mid new : Accounts)
    → AddsUsers groups users overrides old mid → AddsUser (group_in groups user.group) user rules.items mid new → AddsUsers groups (users ++ user ∷ []) (overrides ++ rules ∷ []) old new
users-more groups [] [] user rules old mid new before is = (new, subst (λ (m : Accounts). AddsUser (group_in groups user.group) user rules.items m new) before is, refl)
users-more groups [] (r ∷ overrides) user rules old mid new before is = absurd before
users-more groups (u ∷ users) [] user rules old mid new before is = absurd before
users-more groups (u ∷ users) (r ∷ overrides) user rules old mid new before is = (before.0, before.1, users-more groups users overrides user rules before.0 mid new before.2 is)

row_at : (all : List GroupTable) (k : ℕ) (users : List UserTable) (i : ℕ) (other : UserRate) (user : UserTable) → i < length users
    → (get_or (numbered (user_row all) k users) i other).group ≡ group_in all (get_or users i user).group
row_at all k [] i other user within = absurd (omega arith)
row_at all k (u ∷ users) zero other user within = refl
row_at all k (u ∷ users) (suc i) other user within = row_at all (k + 1) users i other user (omega arith)

-- the group that stands in a user's row is the user's
pub group_at : (groups : List GroupTable) (users : List UserTable) (rows : List UserRate) (i : ℕ) (other : UserRate) (user : UserTable) → rows ≡ user_rows groups users → i < length users
    → user ≡ get_or users i user → (get_or rows i other).group ≡ group_in groups user.group
group_at groups users rows i other user are within is =
    ap (λ (rs : List UserRate). (get_or rs i other).group) are
    ∙ row_at groups 0 users i other user within
    ∙ ap (λ (u : UserTable). group_in groups u.group) (sym is)

-- a user who was added with their overrides
pub with_rules : (group : Option ℕ) (user : UserTable) (rules : List OverrideTable) (old mid new : Accounts) (answer : Result (Unit {0}) (Fault UserProblem))
    → AddsAccount group user old mid → OnOk answer (AddsRules user.name.now rules mid new) → OnOk answer (AddsUser group user rules old new)
with_rules group user rules old mid new (Ok done) is more = (mid, is, more)
with_rules group user rules old mid new (Err fault) is more = tt

pub users-next : (groups : List GroupTable) (users : List UserTable) (overrides : List (Vec OverrideTable Global)) (i : ℕ) (user : UserTable) (rules : Vec OverrideTable Global)
    (items : List OverrideTable) (group : Option ℕ) (old mid new : Accounts)
    → i < length users → i < length overrides → user ≡ get_or users i user → rules ≡ get_or overrides i rules → items ≡ rules.items → group ≡ group_in groups user.group
    → AddsUsers groups (take i users) (take i overrides) old mid → AddsUser group user items mid new
    → AddsUsers groups (take (i + 1) users) (take (i + 1) overrides) old new
users-next groups users overrides i user rules items group old mid new within inside at stands are in_group before is =
    let adds : AddsUser (group_in groups user.group) user rules.items mid new =
    subst (λ (g : Option ℕ). AddsUser g user rules.items mid new) in_group (subst (λ (rs : List OverrideTable). AddsUser group user rs mid new) are is) in
    subst (λ us. AddsUsers groups us (take (i + 1) overrides) old new) (ap (λ u. take i users ++ u ∷ []) at ∙ sym (take_more users i user within))
    (subst (λ rs. AddsUsers groups (take i users ++ user ∷ []) rs old new) (ap (λ r. take i overrides ++ r ∷ []) stands ∙ sym (take_more overrides i rules inside))
    (users-more groups (take i users) (take i overrides) user rules old mid new before adds))
