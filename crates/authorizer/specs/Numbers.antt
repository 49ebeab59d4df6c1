-- The numbers of users, over any list of calls.
use Rattle.std.specs.Prelude.{◌≡◌, ℕ, ◌<◌, Bool, List, [], ◌∷◌, ◌++◌, map, Option, Some, Result, Ok, Err}
use Rattle.std.specs.List.{AllByRecursion}
use Rattle.std.specs.Option.{option_map}
use Rattle.std.specs.FinMap as finite
use Rattle.authorizer.specs.declared.fault.AuthorizerFault.{AuthorizerFault}
use Rattle.authorizer.specs.Users.{User, Users, Accounts}
use Rattle.authorizer.specs.Changes.{added, removed, overridden, with_messages, with_group}

-- a call that may change the users, with its texts
pub data Call : Type 0 where
  AddUser : List ℕ → List ℕ → List ℕ → List ℕ → Call
  RemoveUser : List ℕ → Call
  OverridePerm : List ℕ → List ℕ → List ℕ → Bool → Call
  SetMessages : List ℕ → List ℕ → List ℕ → Call
  SetGroup : List ℕ → Option ℕ → Call

abbrev pub made : Accounts → Call → Result Accounts AuthorizerFault
made old (AddUser name password home letters) = added old name password home letters
made old (RemoveUser name) = removed old name
made old (OverridePerm name path letters recursive) = overridden old name path letters recursive
made old (SetMessages name login quit) = with_messages old name login quit
made old (SetGroup name group) = with_group old name group

-- a call with its result, and the users after it
pub record Exchange : Type 0 where
  pub call : Call
  pub answer : Result (Unit {0}) AuthorizerFault
  pub left : Accounts

-- a successful call has changed the users as defined; a refused one, even for lack of memory, has
-- changed nothing
abbrev pub Leaves : Accounts → Call → Result (Unit {0}) AuthorizerFault → Accounts → Type 0
Leaves old call (Ok _) new = made old call ≡ Ok new
Leaves old call (Err _) new = new ≡ old

-- the calls come one after another, the first on these users
abbrev pub Follow : Accounts → List Exchange → Type 0
Follow old [] = Unit {0}
Follow old (exchange ∷ exchanges) =
    Leaves old exchange.call exchange.answer exchange.left × Follow exchange.left exchanges

-- the number of a user just added, if one was added
abbrev pub given : Call → Result (Unit {0}) AuthorizerFault → Accounts → List (Option ℕ)
given (AddUser name password home letters) (Ok _) new =
    option_map (λ user. user.number) (finite.get new.users name) ∷ []
given _ _ new = []

-- the numbers of added users, in order
abbrev pub all_given : List Exchange → List (Option ℕ)
all_given [] = []
all_given (exchange ∷ exchanges) =
    given exchange.call exchange.answer exchange.left ++ all_given exchanges

-- each number is greater than all numbers before it
abbrev pub IsAscending : List ℕ → Type 0
IsAscending [] = Unit {0}
IsAscending (number ∷ numbers) =
    AllByRecursion (λ later. number < later) numbers × IsAscending numbers

-- After any calls, each added user has a number greater than all numbers before it: no number is
-- used again, not even after its user was removed.
abbrev pub NoNumberAgain : Type 0
NoNumberAgain = (first : Accounts) (exchanges : List Exchange) → Follow first exchanges
    → (numbers : List ℕ) × (all_given exchanges ≡ map Some numbers) × IsAscending numbers

-- no users, as at first
abbrev pub no_users : Accounts
no_users = record { users = finite.empty; next = 0 }

-- the users after the calls
abbrev pub left_by : Accounts → List Exchange → Accounts
left_by first [] = first
left_by first (exchange ∷ exchanges) = left_by exchange.left exchanges

-- two users with the same number are the same
abbrev pub HaveOwnNumbers : Users → Type 0
HaveOwnNumbers users =
    (name other : List ℕ) (user second : User) → finite.get users name ≡ Some user
    → finite.get users other ≡ Some second
    → user.number ≡ second.number → name ≡ other

-- After any calls from no users on, each user has a number of its own.
abbrev pub EachHasOwnNumber : Type 0
EachHasOwnNumber =
    (exchanges : List Exchange) → Follow no_users exchanges
    → HaveOwnNumbers (left_by no_users exchanges).users
