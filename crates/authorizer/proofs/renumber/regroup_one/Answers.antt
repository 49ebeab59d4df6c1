use Rattle.std.proofs.Common.{◌≡◌, ◌∙◌, ℕ, List, Option, Some, None, MatchOption, option_map, slice_index_or, sym, ap, subst, rules}
use Rattle.std.specs.FinMap as finite
use Rattle.authorizer.specs.Stored.{user_of, map_of}
use Rattle.authorizer.specs.Users.{User, Users}
use Rattle.authorizer.proofs.Maps.{get-found, get-missing, map_of-insert}
use Rattle.authorizer.proofs.renumber.regroup_one.Goals as goal

abbrev IsPut : Users → Users → List ℕ → List ℕ → Option User → Type 0
IsPut old new name numbers found =
    MatchOption found (new ≡ old) (λ user. new ≡ finite.insert old name (record user { group = option_map (λ k. slice_index_or numbers k k) user.group }))

at-found : (old new : Users) (name numbers : List ℕ) (found : Option User) → finite.get old name ≡ found → IsPut old new name numbers found → IsPut old new name numbers (finite.get old name)
at-found old new name numbers found is set = subst (IsPut old new name numbers) (sym is) set

pub returns-in-Some : goal.returns-in-Some
returns-in-Some g c =
    let account = record c.in-Some.account.now { group = c.other_group-account.result } in
    let writes = c.get_mut.follows.holds account in
    let put = map_of-insert user_of c.args.name.now c.args.accounts.now (c.get_mut.follows.lender account) account (writes.3 (search rules)) in
    let changed = ap (λ o. finite.insert (map_of user_of c.args.accounts.now) c.args.name.now (record (user_of c.in-Some.account.now) { group = o })) c.other_group-account.ensures.group in
    let found = get-found user_of c.args.name.now c.args.accounts.now c.in-Some.account.now c.in-Some.ensures.value in
    record { group = at-found (map_of user_of c.args.accounts.now) _ c.args.name.now c.args.numbers.now (Some (user_of c.in-Some.account.now)) found (put ∙ changed) }

pub returns-in-None : goal.returns-in-None
returns-in-None g c =
    let missing = get-missing user_of c.args.name.now c.args.accounts.now c.in-None.ensures.value in
    record { group = at-found (map_of user_of c.args.accounts.now) _ c.args.name.now c.args.numbers.now None missing (ap (map_of user_of) c.get_mut.follows.holds-at-none) }
