-- The numbers of users that a server knows.
use Rattle.std.specs.Prelude.{◌≡◌, ◌<◌, ◌≤◌, ℕ, List, Some, map, slice_get, IsPermutation}
use Rattle.std.specs.FinMap as finite
use Rattle.std.specs.List.Sorted.{IsNonDecreasing}
use Rattle.authorizer.specs.Users.{Accounts}
use Rattle.config_change.specs.Past.{with_numbers}
use Rattle.config_change.specs.declared.known.NumberedName.{NumberedName}

-- each of these has a number below this one
abbrev pub AreBelow : List NumberedName → ℕ → Type 0
AreBelow users next =
    (place : ℕ) (user : NumberedName) → slice_get users place ≡ Some user → user.number < next

-- no lower number is above all of these
abbrev pub IsLeast : List NumberedName → ℕ → Type 0
IsLeast users next = (bound : ℕ) → AreBelow users bound → next ≤ bound

-- the numbers of users, in the order of their names
abbrev pub numbers_of : Accounts → List ℕ
numbers_of users = map (λ e. e.1) (with_numbers users (finite.keys users.users))

-- the numbers of all users, ascending
pub record ArePresent (users : Accounts) (present : List ℕ) : Type 0 where
  pub numbers : IsPermutation (numbers_of users) present
  pub rising : IsNonDecreasing present
