use Rattle.std.proofs.Common.{◌≡◌, ℕ, List, Option, Some, None, MatchOption, sym, ap, subst, rules}
use Rattle.std.specs.FinMap as finite
use Rattle.authorizer.specs.Stored.{user_of, map_of}
use Rattle.authorizer.specs.Users.{User, Users}
use Rattle.authorizer.proofs.Maps.{get-found, get-missing, map_of-insert}
use Rattle.authorizer.proofs.table.set_number.Goals as goal

abbrev IsSet : Users → Users → List ℕ → ℕ → Option User → Type 0
IsSet old new name number found = MatchOption found (new ≡ old) (λ user. new ≡ finite.insert old name (record user { number = number }))

at-found : (old new : Users) (name : List ℕ) (number : ℕ) (found : Option User) → finite.get old name ≡ found → IsSet old new name number found → IsSet old new name number (finite.get old name)
at-found old new name number found is set = subst (IsSet old new name number) (sym is) set

pub returns-in-Some : goal.returns-in-Some
returns-in-Some g c =
    let account = record c.in-Some.account.now { number = c.args.number } in
    let writes = c.get_mut.follows.holds account in
    let put = map_of-insert user_of c.args.name.now c.args.accounts.now (c.get_mut.follows.lender account) account (writes.3 (search rules)) in
    let found = get-found user_of c.args.name.now c.args.accounts.now c.in-Some.account.now c.in-Some.ensures.value in
    record { number = at-found (map_of user_of c.args.accounts.now) _ c.args.name.now c.args.number (Some (user_of c.in-Some.account.now)) found put }

pub returns-in-None : goal.returns-in-None
returns-in-None g c =
    let missing = get-missing user_of c.args.name.now c.args.accounts.now c.in-None.ensures.value in
    record { number = at-found (map_of user_of c.args.accounts.now) _ c.args.name.now c.args.number None missing (ap (map_of user_of) c.get_mut.follows.holds-at-none) }
