-- Over any list of calls the numbers of users ascend.
use Rattle.std.proofs.Common.{◌≡◌, ℕ, ◌<◌, ◌≤◌, ◌+◌, cond, List, [], ◌∷◌, ◌++◌, Option, Some, Result, Ok, Err, map, refl, sym, ap, subst, ◌∙◌, arith}
use Rattle.std.specs.List.{AllByRecursion}
use Rattle.std.specs.Option.{option_map}
use Rattle.std.specs.Cmp.{eq_by_cmp_equiv}
use Rattle.std.proofs.lemmas.Cmp.{nat_list_cmp_total}
use Rattle.std.specs.FinMap as finite
use Rattle.std.specs.FinMap.{get-insert}
use Rattle.authorizer.specs.declared.fault.AuthorizerFault.{AuthorizerFault}
use Rattle.authorizer.specs.Users.{User, Users, Accounts}
use Rattle.authorizer.specs.Numbers.{Call, Exchange, Leaves, Follow, given, all_given, IsAscending, NoNumberAgain}
use Rattle.authorizer.specs.Numbers.Call.{AddUser, RemoveUser, OverridePerm, SetMessages, SetGroup}
use Rattle.authorizer.proofs.Outcomes.{IsAdded, is-added, IsChanged, is-changed, is-overridden, is-removed}

-- numbers from this one on, each greater than all before it
record IsGiven (next : ℕ) (found : List (Option ℕ)) : Type 0 where
  numbers : List ℕ
  are : found ≡ map Some numbers
  from : AllByRecursion (λ number. next ≤ number) numbers
  ascending : IsAscending numbers

all-weaker : (next number : ℕ) (numbers : List ℕ) → next + 1 ≤ number → AllByRecursion (λ later. number ≤ later) numbers → AllByRecursion (λ later. next ≤ later) numbers
all-weaker next number [] le all = tt
all-weaker next number (first ∷ numbers) le all = (omega (arith, all.0), all-weaker next number numbers le all.1)

all-later : (next : ℕ) (numbers : List ℕ) → AllByRecursion (λ later. next + 1 ≤ later) numbers → AllByRecursion (λ later. next < later) numbers
all-later next [] all = tt
all-later next (first ∷ numbers) all = (omega (arith, all.0), all-later next numbers all.1)

get-inserted : (users : Users) (name : List ℕ) (user : User) → finite.get (finite.insert users name user) name ≡ Some user
get-inserted users name user =
    get-insert nat_list_cmp_total users name user name
    ∙ ap (λ b. cond b (Some user) (finite.get users name)) ((eq_by_cmp_equiv nat_list_cmp_total).refl name)

number-added : (old new : Accounts) (name : List ℕ) → IsAdded old name new → option_map (λ user. user.number) (finite.get new.users name) ≡ Some old.next
number-added old new name added =
    ap (λ accounts. option_map (λ user. user.number) (finite.get accounts.users name)) (sym added.is)
    ∙ ap (option_map (λ user. user.number)) (get-inserted old.users name added.user)
    ∙ ap Some added.numbered

given-added : (old new : Accounts) (name : List ℕ) (rest : List (Option ℕ)) → IsAdded old name new → IsGiven new.next rest
    → IsGiven old.next (option_map (λ user. user.number) (finite.get new.users name) ∷ rest)
given-added old new name rest added later =
    let from : AllByRecursion (λ number. old.next + 1 ≤ number) later.numbers = subst (λ next. AllByRecursion (λ number. next ≤ number) later.numbers) (sym (ap (λ accounts. accounts.next) added.is)) later.from in
    record {
      numbers = old.next ∷ later.numbers;
      are = ap (λ first. first ∷ rest) (number-added old new name added) ∙ ap (λ rest. Some old.next ∷ rest) later.are;
      from = (omega arith, all-weaker old.next (old.next + 1) later.numbers (omega arith) from);
      ascending = (all-later old.next later.numbers from, later.ascending);
    }

kept : (old new : Accounts) (name : List ℕ) → IsChanged old name new → new.next ≡ old.next
kept old new name changed = sym (ap (λ accounts. accounts.next) changed.is)

given-kept : (old new : Accounts) (rest : List (Option ℕ)) → new.next ≡ old.next → IsGiven new.next rest → IsGiven old.next rest
given-kept old new rest same later = subst (λ next. IsGiven next rest) same later

given-step : (old new : Accounts) (call : Call) (answer : Result (Unit {0}) AuthorizerFault) (rest : List (Option ℕ)) → Leaves old call answer new → IsGiven new.next rest → IsGiven old.next (given call answer new ++ rest)
given-step old new (AddUser name password home letters) (Ok u) rest e later = given-added old new name rest (is-added old new name password home letters e) later
given-step old new (RemoveUser name) (Ok u) rest e later = given-kept old new rest (sym (ap (λ accounts. accounts.next) (is-removed old new name e))) later
given-step old new (OverridePerm name path letters recursive) (Ok u) rest e later = given-kept old new rest (kept old new name (is-overridden old new name path letters recursive e)) later
given-step old new (SetMessages name login quit) (Ok u) rest e later = given-kept old new rest (kept old new name (is-changed old new name (λ user. record user { login = login; quit = quit }) (λ user. refl) e)) later
given-step old new (SetGroup name group) (Ok u) rest e later = given-kept old new rest (kept old new name (is-changed old new name (λ user. record user { group = group }) (λ user. refl) e)) later
given-step old new (AddUser name password home letters) (Err fault) rest e later = given-kept old new rest (ap (λ accounts. accounts.next) e) later
given-step old new (RemoveUser name) (Err fault) rest e later = given-kept old new rest (ap (λ accounts. accounts.next) e) later
given-step old new (OverridePerm name path letters recursive) (Err fault) rest e later = given-kept old new rest (ap (λ accounts. accounts.next) e) later
given-step old new (SetMessages name login quit) (Err fault) rest e later = given-kept old new rest (ap (λ accounts. accounts.next) e) later
given-step old new (SetGroup name group) (Err fault) rest e later = given-kept old new rest (ap (λ accounts. accounts.next) e) later

given-all : (old : Accounts) (exchanges : List Exchange) → Follow old exchanges → IsGiven old.next (all_given exchanges)
given-all old [] follow = record { numbers = []; are = refl; from = tt; ascending = tt }
given-all old (exchange ∷ exchanges) follow =
    given-step old exchange.left exchange.call exchange.answer (all_given exchanges) follow.0 (given-all exchange.left exchanges follow.1)

pub no_number_again : NoNumberAgain
no_number_again first exchanges follow =
    let found : IsGiven first.next (all_given exchanges) = given-all first exchanges follow in
    (found.numbers, found.are, found.ascending)
