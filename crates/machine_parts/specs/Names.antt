-- Names and their numbers, as a server knows them.
use Rattle.std.specs.Prelude.{◌≡◌, ℕ, nat_eq, bytes_eq, List, map, Option, Some, option_map, string_bytes, IsPermutation}
use Rattle.std.specs.List.{Contains, find}
use Rattle.authorizer.specs.Users.{Accounts}
use Rattle.config_change.specs.Named.{number_named}
use Rattle.config_change.specs.Past.{known_after, named_item}
use Rattle.config_change.specs.declared.known.NumberedName.{NumberedName}

-- the number of a name
abbrev pub number_in : List NumberedName → List ℕ → Option ℕ
number_in users name =
    option_map (λ user. user.number) (find (λ user. bytes_eq (string_bytes user.name) name) users)

-- the name of a number
abbrev pub name_in : List NumberedName → ℕ → Option (List ℕ)
name_in users number =
    option_map (λ user. string_bytes user.name) (find (λ user. nat_eq user.number number) users)

-- the names of all users, and those that were known earlier, each with its number
abbrev pub AreKnown : Accounts → List NumberedName → List NumberedName → Type 0
AreKnown users earlier known =
    IsPermutation (known_after users (map named_item earlier)) (map named_item known)

-- Each name has the number that it is known by, which is one, and no other name has any; who comes
-- next gets this one.
pub record HasNumbers (known : List NumberedName) (next : ℕ) (accounts : Accounts) : Type 0 where
  pub next_number : accounts.next ≡ next
  pub numbers : (name : List ℕ) → number_named accounts name ≡ number_in known name
  pub own : (name : List ℕ) (number : ℕ) → Contains (map named_item known) (name, number)
      → number_in known name ≡ Some number
