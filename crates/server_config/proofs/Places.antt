-- The numbers of users are their places in the file.
use Rattle.std.proofs.Common.{◌≡◌, ℕ, zero, suc, ◌+◌, Bool, true, false, cond, List, [], ◌∷◌, Option, Some, Result, Ok, Err, Vec, Global, is_some, slice_get, refl, sym, ap, subst, ◌∙◌, arith}
use Rattle.std.specs.Cmp.Lexicographic.{slice_cmp}
use Rattle.std.specs.FinMap as finite
use Rattle.std.specs.FinMap.{get-insert}
use Rattle.std.specs.Ordering.{eq_by_cmp, nat_cmp}
use Rattle.std.specs.Prelude.{nat_eq}
use Rattle.std.proofs.lemmas.Bool.{eq-eqb}
use Rattle.std.proofs.lemmas.Cmp.{nat_list_cmp_total}
use Rattle.std.proofs.lemmas.Grind.{common_steps}
use Rattle.std.proofs.lemmas.Map.Text.{is_eq-slice_cmp}
use Rattle.std.proofs.lemmas.Slice.Eq.{bytes_eq-Decides}
use Rattle.authorizer.specs.Changes.{added}
use Rattle.authorizer.specs.Numbers.{no_users}
use Rattle.authorizer.specs.Users.{Accounts, User, Users}
use Rattle.authorizer.specs.declared.fault.AuthorizerFault.{AuthorizerFault}
use Rattle.authorizer.specs.declared.fault.AuthorizerFault.TheVariants.{UserExists}
use Rattle.authorizer.proofs.Maps.{equal_keys}
use Rattle.authorizer.proofs.Outcomes.{IsAdded, is-added, IsChanged, is-changed, is-overridden}
use Rattle.server_config.specs.Groups.{group_in}
use Rattle.server_config.specs.RateRows.{numbered, user_row, user_rows}
use Rattle.config_file.specs.declared.stated.GroupTable.{GroupTable}
use Rattle.config_file.specs.declared.stated.OverrideTable.{OverrideTable}
use Rattle.config_file.specs.declared.stated.UserTable.{UserTable}
use Rattle.server_config.specs.Users.{AddsAccount, AddsRules, AddsUser, AddsUsers}
use Rattle.line_rates.specs.Stated.{user_number}
use Rattle.line_rates.proofs.RowLemmas.{first_row, get-by_number}
use Rattle.server_config.specs.Numbers.{HasNumber, NumbersAgree}

some_same : (a b : User) → Some a ≡ Some b → a ≡ b
some_same a b e = cc

-- ---- who stands behind an insertion

itself : (name : List ℕ) → eq_by_cmp (slice_cmp nat_cmp) name name ≡ true
itself name = is_eq-slice_cmp name name ∙ (bytes_eq-Decides name name).1 refl

put_if : (users : Users) (key : List ℕ) (put : User) (name : List ℕ) (k : ℕ) (found : User) → finite.get users name ≡ Some found → found.number ≡ k
    → (name ≡ key → put.number ≡ k) → (b : Bool) → eq_by_cmp (slice_cmp nat_cmp) name key ≡ b
    → (u : User) × (cond b (Some put) (finite.get users name) ≡ Some u) × (u.number ≡ k)
put_if users key put name k found stands is same true here = (put, refl, same (equal_keys name key here))
put_if users key put name k found stands is same false other = (found, stands, is)

inserted : (users : Users) (key : List ℕ) (put : User) (next : ℕ) (name : List ℕ) (k : ℕ) (found : User) → finite.get users name ≡ Some found → found.number ≡ k
    → (name ≡ key → put.number ≡ k) → HasNumber (record { users = finite.insert users key put; next = next }) name k
inserted users key put next name k found stands is same =
    let one = put_if users key put name k found stands is same (eq_by_cmp (slice_cmp nat_cmp) name key) refl in
    (one.0, get-insert nat_list_cmp_total users key put name ∙ one.1, one.2)

-- ---- what a change leaves

-- each user keeps their number
abbrev Keeps : Accounts → Accounts → Type 0
Keeps old new = (name : List ℕ) (k : ℕ) → HasNumber old name k → HasNumber new name k

changed_keeps : (old new : Accounts) (who : List ℕ) → IsChanged old who new → Keeps old new
changed_keeps old new who changed name k has =
    subst (λ (a : Accounts). HasNumber a name k) changed.is
    (inserted old.users who changed.user old.next name k has.0 has.1 has.2
    (λ same. let one : changed.before ≡ has.0 = some_same changed.before has.0 (sym changed.stood ∙ ap (finite.get old.users) (sym same) ∙ has.1) in
    changed.numbered ∙ ap (λ (u : User). u.number) one ∙ has.2))

changed_next : (old new : Accounts) (who : List ℕ) → IsChanged old who new → new.next ≡ old.next
changed_next old new who changed = ap (λ (a : Accounts). a.next) (sym changed.is)

-- who is added was not there
fresh : (new : Accounts) (b : Bool) (next : Result Accounts AuthorizerFault) → cond b (Err UserExists) next ≡ Ok new → b ≡ false
fresh new true next e = cc
fresh new false next e = refl

is_new : (old new : Accounts) (name password home letters : List ℕ) → added old name password home letters ≡ Ok new → finite.contains_key old.users name ≡ false
is_new old new name password home letters e =
    fresh new (finite.contains_key old.users name) _ e

added_keeps : (old new : Accounts) (who : List ℕ) → IsAdded old who new → finite.contains_key old.users who ≡ false → Keeps old new
added_keeps old new who added absent name k has =
    subst (λ (a : Accounts). HasNumber a name k) added.is
    (inserted old.users who added.user (old.next + 1) name k has.0 has.1 has.2
    (λ same. absurd (let there : finite.get old.users who ≡ Some has.0 = ap (finite.get old.users) (sym same) ∙ has.1 in
    let found : finite.contains_key old.users who ≡ true = ap is_some there in cc)))

added_gives : (old new : Accounts) (who : List ℕ) → IsAdded old who new → HasNumber new who old.next
added_gives old new who added =
    subst (λ (a : Accounts). HasNumber a who old.next) added.is
    (added.user, get-insert nat_list_cmp_total old.users who added.user who ∙ ap (λ (b : Bool). cond b (Some added.user) (finite.get old.users who)) (itself who), added.numbered)

added_next : (old new : Accounts) (who : List ℕ) → IsAdded old who new → new.next ≡ old.next + 1
added_next old new who added = ap (λ (a : Accounts). a.next) (sym added.is)

-- ---- a user of the file

record Joins (name : List ℕ) (old new : Accounts) : Type 0 where
  keeps : Keeps old new
  gives : HasNumber new name old.next
  next : new.next ≡ old.next + 1

joins_more : (name who : List ℕ) (old mid new : Accounts) → Joins name old mid → IsChanged mid who new → Joins name old new
joins_more name who old mid new joins changed = record {
  keeps = λ other k has. changed_keeps mid new who changed other k (joins.keeps other k has);
  gives = changed_keeps mid new who changed name old.next joins.gives;
  next = changed_next mid new who changed ∙ joins.next;
}

joins_account : (group : Option ℕ) (user : UserTable) (old new : Accounts) → AddsAccount group user old new → Joins user.name.now old new
joins_account group user old new adds =
    let name = user.name.now in
    let first = is-added old adds.named name user.password.now user.home.now user.perms.now adds.is_named in
    let absent = is_new old adds.named name user.password.now user.home.now user.perms.now adds.is_named in
    let one : Joins name old adds.named = record {
      keeps = added_keeps old adds.named name first absent;
      gives = added_gives old adds.named name first;
      next = added_next old adds.named name first;
    } in
    let second = is-changed adds.named adds.greeted name (λ u. record u { login = user.msg_login.now; quit = user.msg_quit.now }) (λ u. refl) adds.is_greeted in
    let third = is-changed adds.greeted new name (λ u. record u { group = group }) (λ u. refl) adds.is_grouped in
    joins_more name name old adds.greeted new (joins_more name name old adds.named adds.greeted one second) third

joins_rules : (name who : List ℕ) (rules : List OverrideTable) (old mid new : Accounts) → Joins name old mid → AddsRules who rules mid new → Joins name old new
joins_rules name who [] old mid new joins adds = subst (λ (a : Accounts). Joins name old a) (sym adds) joins
joins_rules name who (rule ∷ rules) old mid new joins adds =
    joins_rules name who rules old adds.0 new
    (joins_more name who old mid adds.0 joins (is-overridden mid adds.0 who rule.path.now rule.perms.now rule.recursive adds.1)) adds.2

joins_user : (group : Option ℕ) (user : UserTable) (rules : List OverrideTable) (old new : Accounts) → AddsUser group user rules old new → Joins user.name.now old new
joins_user group user rules old new adds =
    joins_rules user.name.now user.name.now rules old adds.0 new (joins_account group user old adds.0 adds.1) adds.2

-- ---- all users

all_keep : (groups : List GroupTable) (users : List UserTable) (rules : List (Vec OverrideTable Global)) (old new : Accounts) → AddsUsers groups users rules old new → Keeps old new
all_keep groups [] [] old new adds = λ name k has. subst (λ (a : Accounts). HasNumber a name k) (sym adds) has
all_keep groups [] (r ∷ rules) old new adds = absurd adds
all_keep groups (user ∷ users) [] old new adds = absurd adds
all_keep groups (user ∷ users) (r ∷ rules) old new adds = λ name k has.
    all_keep groups users rules adds.0 new adds.2 name k ((joins_user (group_in groups user.group) user r.items old adds.0 adds.1).keeps name k has)

numbers_from : (groups : List GroupTable) (users : List UserTable) (rules : List (Vec OverrideTable Global)) (old new : Accounts) → AddsUsers groups users rules old new
    → (k : ℕ) (user : UserTable) → slice_get users k ≡ Some user → HasNumber new user.name.now (old.next + k)
numbers_from groups [] rules old new adds k user is = absurd (cc)
numbers_from groups (u ∷ users) [] old new adds k user is = absurd adds
numbers_from groups (u ∷ users) (r ∷ rules) old new adds zero user is =
    let joins = joins_user (group_in groups u.group) u r.items old adds.0 adds.1 in
    let last = all_keep groups users rules adds.0 new adds.2 u.name.now old.next joins.gives in
    let one : u ≡ user = cc in
    let at : old.next ≡ old.next + 0 = omega arith in
    subst (λ (t : UserTable). HasNumber new t.name.now (old.next + 0)) one (subst (λ (n : ℕ). HasNumber new u.name.now n) at last)
numbers_from groups (u ∷ users) (r ∷ rules) old new adds (suc k) user is =
    let joins = joins_user (group_in groups u.group) u r.items old adds.0 adds.1 in
    let rest = numbers_from groups users rules adds.0 new adds.2 k user is in
    let at : adds.0.next + k ≡ old.next + suc k = omega (arith, joins.next) in
    subst (λ (n : ℕ). HasNumber new user.name.now n) at rest

-- ---- the rows of rates

rows_at : (groups : List GroupTable) (j k q : ℕ) (users : List UserTable) (user : UserTable) → slice_get users k ≡ Some user → q ≡ j + k
    → first_row user_number q (numbered (user_row groups) j users) ≡ Some (user_row groups q user)
rows_at groups j k q [] user is at = absurd (cc)
rows_at groups j zero q (u ∷ users) user is at =
    let one : u ≡ user = cc in
    let same : j ≡ q = omega (arith, at) in
    let test : nat_eq j q ≡ true = eq-eqb j q same in
    rw test (ap (λ (n : ℕ). Some (user_row groups n u)) same ∙ ap (λ (t : UserTable). Some (user_row groups q t)) one)
rows_at groups j (suc k) q (u ∷ users) user is at =
    let test : nat_eq j q ≡ false = grind (arith, common_steps) in
    rw test (rows_at groups (j + 1) k q users user is (omega (arith, at)))

pub numbers_agree : NumbersAgree
numbers_agree tables config made k user is =
    let at : 0 + k ≡ k = omega arith in (
      subst (λ (n : ℕ). HasNumber config.users user.name.now n) at
          (numbers_from tables.groups.items tables.users.items tables.overrides.items no_users config.users made.users k user is),
      ap (λ r. finite.get r.users k) made.limits ∙ get-by_number user_number k (user_rows tables.groups.items tables.users.items)
          ∙ rows_at tables.groups.items 0 k k tables.users.items user is (sym at),
    )
