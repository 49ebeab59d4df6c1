-- Over any list of calls each user has a number of its own.
use Rattle.std.proofs.Common.{◌≡◌, ◌⊎◌, inl, inr, ℕ, ◌<◌, ◌≤◌, ◌+◌, Bool, true, false, cond, List, [], ◌∷◌, Some, None, Result, Ok, Err, refl, sym, ap, subst, ◌∙◌, arith}
use Rattle.std.specs.Cmp.Lexicographic.{slice_cmp}
use Rattle.std.specs.Ordering.{nat_cmp, eq_by_cmp}
use Rattle.std.proofs.lemmas.Cmp.{nat_list_cmp_total}
use Rattle.std.specs.FinMap as finite
use Rattle.std.specs.FinMap.{get-empty, get-insert, get-remove}
use Rattle.authorizer.specs.declared.fault.AuthorizerFault.{AuthorizerFault}
use Rattle.authorizer.specs.Users.{User, Users, Accounts}
use Rattle.authorizer.specs.Numbers.{Call, Exchange, Leaves, Follow, no_users, left_by, EachHasOwnNumber}
use Rattle.authorizer.specs.Numbers.Call.{AddUser, RemoveUser, OverridePerm, SetMessages, SetGroup}
use Rattle.authorizer.specs.Renumbered.{IsNumbered}
use Rattle.authorizer.proofs.Maps.{equal_keys}
use Rattle.authorizer.proofs.Outcomes.{IsAdded, is-added, IsChanged, is-changed, is-overridden, is-removed}

some_same : (a b : User) → Some a ≡ Some b → a ≡ b
some_same a b e = cc

none_some : (b : User) → None ≡ Some b → ⊥
none_some b e = cc

-- ---- who stands after an insertion, or a removal

stood-if : (users : Users) (key : List ℕ) (put : User) (name : List ℕ) (user : User) (b : Bool) → eq_by_cmp (slice_cmp nat_cmp) name key ≡ b
    → cond b (Some put) (finite.get users name) ≡ Some user → ((name ≡ key) × (user ≡ put)) ⊎ (finite.get users name ≡ Some user)
stood-if users key put name user true same e = inl (equal_keys name key same, sym (some_same put user e))
stood-if users key put name user false same e = inr e

stood : (users : Users) (key : List ℕ) (put : User) (name : List ℕ) (user : User) → finite.get (finite.insert users key put) name ≡ Some user
    → ((name ≡ key) × (user ≡ put)) ⊎ (finite.get users name ≡ Some user)
stood users key put name user is =
    stood-if users key put name user (eq_by_cmp (slice_cmp nat_cmp) name key) refl (sym (get-insert nat_list_cmp_total users key put name) ∙ is)

left-if : (users : Users) (name : List ℕ) (user : User) (b : Bool) → cond b None (finite.get users name) ≡ Some user → finite.get users name ≡ Some user
left-if users name user true e = absurd (none_some user e)
left-if users name user false e = e

left : (users : Users) (key name : List ℕ) (user : User) → finite.get (finite.remove users key) name ≡ Some user → finite.get users name ≡ Some user
left users key name user is =
    left-if users name user (eq_by_cmp (slice_cmp nat_cmp) name key) (sym (get-remove nat_list_cmp_total users key name) ∙ is)

-- ---- what each call leaves

below-inserted : (old : Accounts) (key : List ℕ) (put : User) (next : ℕ) (name : List ℕ) (user : User) → old.next ≤ next → put.number < next → IsNumbered old
    → ((name ≡ key) × (user ≡ put)) ⊎ (finite.get old.users name ≡ Some user) → user.number < next
below-inserted old key put next name user grows less numbered (inl here) = subst (λ (u : User). u.number < next) (sym here.1) less
below-inserted old key put next name user grows less numbered (inr there) = omega (arith, numbered.below name user there, grows)

own-inserted : (old : Accounts) (key : List ℕ) (put : User) (name other : List ℕ) (user second : User)
    → ((name : List ℕ) (user : User) → finite.get old.users name ≡ Some user → put.number ≡ user.number → key ≡ name) → IsNumbered old
    → ((name ≡ key) × (user ≡ put)) ⊎ (finite.get old.users name ≡ Some user)
    → ((other ≡ key) × (second ≡ put)) ⊎ (finite.get old.users other ≡ Some second)
    → user.number ≡ second.number → name ≡ other
own-inserted old key put name other user second alone numbered (inl here) (inl also) same = here.0 ∙ sym also.0
own-inserted old key put name other user second alone numbered (inl here) (inr there) same =
    here.0 ∙ alone other second there (ap (λ (u : User). u.number) (sym here.1) ∙ same)
own-inserted old key put name other user second alone numbered (inr there) (inl also) same =
    sym (alone name user there (ap (λ (u : User). u.number) (sym also.1) ∙ sym same)) ∙ sym also.0
own-inserted old key put name other user second alone numbered (inr there) (inr also) same = numbered.own name other user second there also same

numbered-inserted : (old : Accounts) (key : List ℕ) (put : User) (next : ℕ) → old.next ≤ next → put.number < next
    → ((name : List ℕ) (user : User) → finite.get old.users name ≡ Some user → put.number ≡ user.number → key ≡ name) → IsNumbered old
    → IsNumbered (record { users = finite.insert old.users key put; next = next })
numbered-inserted old key put next grows less alone numbered = record {
  below = λ name user is. below-inserted old key put next name user grows less numbered (stood old.users key put name user is);
  own = λ name other user second is also same.
      own-inserted old key put name other user second alone numbered (stood old.users key put name user is) (stood old.users key put other second also) same;
}

numbered-added : (old new : Accounts) (name : List ℕ) → IsAdded old name new → IsNumbered old → IsNumbered new
numbered-added old new name added numbered =
    subst IsNumbered added.is
    (numbered-inserted old name added.user (old.next + 1) (omega arith) (omega (arith, added.numbered))
    (λ other user is same. absurd (omega (arith, numbered.below other user is, added.numbered, same))) numbered)

numbered-changed : (old new : Accounts) (name : List ℕ) → IsChanged old name new → IsNumbered old → IsNumbered new
numbered-changed old new name changed numbered =
    subst IsNumbered changed.is
    (numbered-inserted old name changed.user old.next (omega arith) (omega (arith, changed.numbered, numbered.below name changed.before changed.stood))
    (λ other user is same. numbered.own name other changed.before user changed.stood is (sym changed.numbered ∙ same)) numbered)

numbered-removed : (old new : Accounts) (name : List ℕ) → record { users = finite.remove old.users name; next = old.next } ≡ new → IsNumbered old → IsNumbered new
numbered-removed old new name is numbered =
    let without : Accounts = record { users = finite.remove old.users name; next = old.next } in
    let kept : IsNumbered without = record {
      below = λ other user found. numbered.below other user (left old.users name other user found);
      own = λ one other user second found also same. numbered.own one other user second (left old.users name one user found) (left old.users name other second also) same;
    } in
    subst IsNumbered is kept

numbered-step : (old new : Accounts) (call : Call) (answer : Result (Unit {0}) AuthorizerFault) → Leaves old call answer new → IsNumbered old → IsNumbered new
numbered-step old new (AddUser name password home letters) (Ok u) e numbered = numbered-added old new name (is-added old new name password home letters e) numbered
numbered-step old new (RemoveUser name) (Ok u) e numbered = numbered-removed old new name (is-removed old new name e) numbered
numbered-step old new (OverridePerm name path letters recursive) (Ok u) e numbered = numbered-changed old new name (is-overridden old new name path letters recursive e) numbered
numbered-step old new (SetMessages name login quit) (Ok u) e numbered =
    numbered-changed old new name (is-changed old new name (λ user. record user { login = login; quit = quit }) (λ user. refl) e) numbered
numbered-step old new (SetGroup name group) (Ok u) e numbered =
    numbered-changed old new name (is-changed old new name (λ user. record user { group = group }) (λ user. refl) e) numbered
numbered-step old new call (Err fault) e numbered = subst IsNumbered (sym e) numbered

pub numbered-all : (first : Accounts) (exchanges : List Exchange) → Follow first exchanges → IsNumbered first → IsNumbered (left_by first exchanges)
numbered-all first [] follow numbered = numbered
numbered-all first (exchange ∷ exchanges) follow numbered =
    numbered-all exchange.left exchanges follow.1 (numbered-step first exchange.left exchange.call exchange.answer follow.0 numbered)

nobody : (name : List ℕ) (user : User) → finite.get no_users.users name ≡ Some user → ⊥
nobody name user is = none_some user (sym (get-empty {X = User} (slice_cmp nat_cmp) name) ∙ is)

pub numbered-none : IsNumbered no_users
numbered-none = record {
  below = λ name user is. absurd (nobody name user is);
  own = λ name other user second is also same. absurd (nobody name user is);
}

pub each_has_own_number : EachHasOwnNumber
each_has_own_number exchanges follow = (numbered-all no_users exchanges follow numbered-none).own
