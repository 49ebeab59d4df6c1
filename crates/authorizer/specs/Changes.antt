-- The effect of each call on the users, if memory does not run out. The first refusal that applies
-- is the result.
use Rattle.std.specs.Prelude.{ℕ, ◌+◌, ◌^◌, Bool, false, cond, ◌||◌, List, [], Option, Some, None, Result, Ok, Err, nat_lt, bytes_eq, codes}
use Rattle.std.specs.FinMap as map
use Rattle.virtual_path.specs.Path.{Path, path_text, resolved}
use Rattle.virtual_path.specs.declared.fault.PathFault.{PathFault}
use Rattle.authorizer.specs.declared.fault.AuthorizerFault.{AuthorizerFault}
use Rattle.authorizer.specs.declared.fault.AuthorizerFault.TheVariants.{UserExists, NoSuchUser, BadLetter, BadPath, NoNumber}
use Rattle.ftp_terms.specs.declared.letters.Letters.{Letters}
use Rattle.authorizer.specs.declared.account.Rule.{Rule}
use Rattle.ftp_terms.specs.Letters.{letters_of}
use Rattle.authorizer.specs.Users.{User, Users, Accounts}

abbrev pub user_then : {X : Type 0} → Option User → (User → Result X AuthorizerFault)
    → Result X AuthorizerFault
user_then None next = Err NoSuchUser
user_then (Some user) next = next user

abbrev pub letters_then : {X : Type 0} → Option Letters → (Letters → Result X AuthorizerFault)
    → Result X AuthorizerFault
letters_then None next = Err BadLetter
letters_then (Some letters) next = next letters

abbrev pub path_then : {X : Type 0} → Result Path PathFault → (Path → Result X AuthorizerFault)
    → Result X AuthorizerFault
path_then (Err fault) next = Err BadPath
path_then (Ok path) next = next path

-- a user as added: no override, no group, and the default messages
abbrev pub new_user : ℕ → List ℕ → Path → Letters → User
new_user number password home letters = record {
  number = number;
  password = password;
  home = home;
  letters = letters;
  login = codes "Welcome";
  quit = codes "Goodbye";
  overrides = map.empty;
  group = None;
}

-- users are numbered as they are added, below 2^32
abbrev pub placed : Accounts → List ℕ → User → Result Accounts AuthorizerFault
placed accounts name user =
    cond (nat_lt accounts.next (2 ^ 32))
    (Ok (record { users = map.insert accounts.users name user; next = accounts.next + 1 }))
    (Err NoNumber)

abbrev pub added : Accounts → List ℕ → List ℕ → List ℕ → List ℕ → Result Accounts AuthorizerFault
added accounts name password home letters =
    cond (map.contains_key accounts.users name) (Err UserExists)
    (letters_then (letters_of letters)
    (λ held. path_then (resolved [] home)
    (λ path. placed accounts name (new_user accounts.next password path held))))

-- one user replaced
abbrev pub with_user : Accounts → List ℕ → User → Accounts
with_user accounts name user =
    record { users = map.insert accounts.users name user; next = accounts.next }

abbrev pub removed : Accounts → List ℕ → Result Accounts AuthorizerFault
removed accounts name =
    user_then (map.get accounts.users name)
    (λ user. Ok (record { users = map.remove accounts.users name; next = accounts.next }))

-- a second override of the same path replaces the first
abbrev pub overriding : User → Path → Rule → User
overriding user path rule =
    record user { overrides = map.insert user.overrides (path_text path) rule }

abbrev pub overridden : Accounts → List ℕ → List ℕ → List ℕ → Bool → Result Accounts AuthorizerFault
overridden accounts name path letters recursive = user_then (map.get accounts.users name) (λ user.
    letters_then (letters_of letters) (λ held. path_then (resolved [] path) (λ place.
    Ok (with_user accounts name
    (overriding user place (record { letters = held; recursive = recursive }))))))

abbrev pub with_messages : Accounts → List ℕ → List ℕ → List ℕ → Result Accounts AuthorizerFault
with_messages accounts name login quit =
    user_then (map.get accounts.users name)
    (λ user. Ok (with_user accounts name (record user { login = login; quit = quit })))

abbrev pub with_group : Accounts → List ℕ → Option ℕ → Result Accounts AuthorizerFault
with_group accounts name group =
    user_then (map.get accounts.users name)
    (λ user. Ok (with_user accounts name (record user { group = group })))

-- the anonymous user has every password
abbrev pub passes : List ℕ → List ℕ → Option User → Bool
passes name password None = false
passes name password (Some user) =
    bytes_eq name (codes "anonymous") || bytes_eq password user.password

abbrev pub is_password : Users → List ℕ → List ℕ → Bool
is_password users name password = passes name password (map.get users name)
