-- What the users are after a call that was carried out.
use Rattle.std.proofs.Common.{◌≡◌, ℕ, ◌+◌, ◌^◌, nat_lt, Bool, true, false, cond, List, [], Option, Some, None, Result, Ok, Err, refl}
use Rattle.std.specs.FinMap as finite
use Rattle.virtual_path.specs.Path.{Path, resolved}
use Rattle.virtual_path.specs.declared.fault.PathFault.{PathFault}
use Rattle.authorizer.specs.declared.fault.AuthorizerFault.{AuthorizerFault}
use Rattle.authorizer.specs.declared.fault.AuthorizerFault.TheVariants.{UserExists, NoSuchUser, BadLetter, BadPath, NoNumber}
use Rattle.ftp_terms.specs.declared.letters.Letters.{Letters}
use Rattle.ftp_terms.specs.Letters.{letters_of}
use Rattle.authorizer.specs.Users.{User, Accounts}
use Rattle.authorizer.specs.Changes.{user_then, letters_then, path_then, placed, new_user, with_user, overriding}
use Rattle.authorizer.specs.Numbers.{made}
use Rattle.authorizer.specs.Numbers.Call.{AddUser, RemoveUser, OverridePerm}

abbrev Answer : Type 0
Answer = Result Accounts AuthorizerFault

not_refused : (fault : AuthorizerFault) (accounts : Accounts) → ◌≡◌ {A = Answer} (Err fault) (Ok accounts) → ⊥
not_refused fault accounts e = cc

same_users : (a b : Accounts) → ◌≡◌ {A = Answer} (Ok a) (Ok b) → a ≡ b
same_users a b e = cc

by_user : (P : Type 0) (new : Accounts) (found : Option User) (next : User → Answer) → ((user : User) → found ≡ Some user → next user ≡ Ok new → P) → user_then found next ≡ Ok new → P
by_user P new None next go e = absurd (not_refused NoSuchUser new e)
by_user P new (Some user) next go e = go user refl e

by_letters : (P : Type 0) (new : Accounts) (found : Option Letters) (next : Letters → Answer) → ((letters : Letters) → next letters ≡ Ok new → P) → letters_then found next ≡ Ok new → P
by_letters P new None next go e = absurd (not_refused BadLetter new e)
by_letters P new (Some letters) next go e = go letters e

by_path : (P : Type 0) (new : Accounts) (found : Result Path PathFault) (next : Path → Answer) → ((path : Path) → next path ≡ Ok new → P) → path_then found next ≡ Ok new → P
by_path P new (Err fault) next go e = absurd (not_refused BadPath new e)
by_path P new (Ok path) next go e = go path e

by_test : (P : Type 0) (new : Accounts) (b : Bool) (fault : AuthorizerFault) (next : Answer) → (next ≡ Ok new → P) → cond b (Err fault) next ≡ Ok new → P
by_test P new true fault next go e = absurd (not_refused fault new e)
by_test P new false fault next go e = go e

-- a user came, under the next number
pub record IsAdded (old : Accounts) (name : List ℕ) (new : Accounts) : Type 0 where
  pub user : User
  pub numbered : user.number ≡ old.next
  pub is : record { users = finite.insert old.users name user; next = old.next + 1 } ≡ new

added-placed : (old new : Accounts) (name : List ℕ) (user : User) (b : Bool) → user.number ≡ old.next
    → ◌≡◌ {A = Answer} (cond b (Ok (record { users = finite.insert old.users name user; next = old.next + 1 })) (Err NoNumber)) (Ok new) → IsAdded old name new
added-placed old new name user true number e =
    record { user = user; numbered = number; is = same_users (record { users = finite.insert old.users name user; next = old.next + 1 }) new e }
added-placed old new name user false number e = absurd (not_refused NoNumber new e)

pub is-added : (old new : Accounts) (name password home letters : List ℕ) → made old (AddUser name password home letters) ≡ Ok new → IsAdded old name new
is-added old new name password home letters e =
    let by_place : Letters → Path → Answer = λ held path. placed old name (new_user old.next password path held) in
    let by_held : Letters → Answer = λ held. path_then (resolved [] home) (by_place held) in
    by_test (IsAdded old name new) new (finite.contains_key old.users name) UserExists (letters_then (letters_of letters) by_held)
    (by_letters (IsAdded old name new) new (letters_of letters) by_held
    (λ held. by_path (IsAdded old name new) new (resolved [] home) (by_place held)
    (λ path. added-placed old new name (new_user old.next password path held) (nat_lt old.next (2 ^ 32)) refl))) e

-- a user has changed, but for the number
pub record IsChanged (old : Accounts) (name : List ℕ) (new : Accounts) : Type 0 where
  pub before : User
  pub user : User
  pub stood : finite.get old.users name ≡ Some before
  pub numbered : user.number ≡ before.number
  pub is : with_user old name user ≡ new

pub is-changed : (old new : Accounts) (name : List ℕ) (change : User → User) → ((user : User) → (change user).number ≡ user.number)
    → user_then (finite.get old.users name) (λ user. Ok (with_user old name (change user))) ≡ Ok new → IsChanged old name new
is-changed old new name change same e =
    by_user (IsChanged old name new) new (finite.get old.users name) (λ user. Ok (with_user old name (change user)))
    (λ user stood is. record { before = user; user = change user; stood = stood; numbered = same user; is = same_users (with_user old name (change user)) new is }) e

pub is-overridden : (old new : Accounts) (name path letters : List ℕ) (recursive : Bool) → made old (OverridePerm name path letters recursive) ≡ Ok new → IsChanged old name new
is-overridden old new name path letters recursive e =
    let changed : User → Letters → Path → User = λ user held place. overriding user place (record { letters = held; recursive = recursive }) in
    let by_place : User → Letters → Path → Answer = λ user held place. Ok (with_user old name (changed user held place)) in
    let by_held : User → Letters → Answer = λ user held. path_then (resolved [] path) (by_place user held) in
    by_user (IsChanged old name new) new (finite.get old.users name) (λ user. letters_then (letters_of letters) (by_held user))
    (λ user stood. by_letters (IsChanged old name new) new (letters_of letters) (by_held user)
    (λ held. by_path (IsChanged old name new) new (resolved [] path) (by_place user held)
    (λ place is. record { before = user; user = changed user held place; stood = stood; numbered = refl; is = same_users (with_user old name (changed user held place)) new is }))) e

pub is-removed : (old new : Accounts) (name : List ℕ) → made old (RemoveUser name) ≡ Ok new → record { users = finite.remove old.users name; next = old.next } ≡ new
is-removed old new name e =
    let without : Accounts = record { users = finite.remove old.users name; next = old.next } in
    by_user (without ≡ new) new (finite.get old.users name) (λ user. Ok without) (λ user stood is. same_users without new is) e
