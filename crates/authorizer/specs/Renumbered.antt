-- Numbers that users keep from an earlier authorizer.
use Rattle.std.specs.Prelude.{◌≡◌, ℕ, ◌+◌, ◌^◌, ◌<◌, ◌≤◌, nat_le, nat_lt, not, cond, List, map, length, count_by, Option, Some, None, Result, Ok, Err, string_bytes, slice_index_or}
use Rattle.std.specs.Option.{option_map}
use Rattle.std.specs.List.{filter}
use Rattle.std.specs.FinMap as finite
use Rattle.authorizer.specs.declared.fault.AuthorizerFault.{AuthorizerFault}
use Rattle.authorizer.specs.declared.fault.AuthorizerFault.TheVariants.{NoNumber}
use Rattle.authorizer.specs.declared.renumber.Numbered.{Numbered}
use Rattle.authorizer.specs.Users.{User, Users, Accounts}
use Rattle.authorizer.specs.Numbers.{Exchange, Follow, left_by, no_users, HaveOwnNumbers}

-- the users, each changed
abbrev pub each_user : (List ℕ → User → User) → Users → Users
each_user change users =
    finite.from_entries (map (λ e. (e.0, change e.0 e.1)) (finite.entries users))

-- a number for each user, by name
abbrev pub numbers_by : (List ℕ → User → ℕ) → Users → List (List ℕ × ℕ)
numbers_by number users = map (λ e. (e.0, number e.0 e.1)) (finite.entries users)

abbrev pub numbered_item : {Y : Type 0} → Numbered Y → List ℕ × ℕ
numbered_item item = (string_bytes item.name, item.number)

-- the numbers of the users whose names the earlier users do not have
abbrev pub new_numbers : Users → Users → List ℕ
new_numbers earlier users =
    map (λ e. e.1.number)
    (filter (λ e. not (finite.contains_key earlier e.0)) (finite.entries users))

abbrev pub number_or : Option User → ℕ → ℕ
number_or None number = number
number_or (Some user) number = user.number

-- The number of a user: that of the earlier user of the name; if there is none, the next earlier
-- number, and one more for each new user whose number was below.
abbrev pub kept_number : Accounts → List ℕ → List ℕ → ℕ → ℕ
kept_number earlier numbers name number =
    number_or (finite.get earlier.users name)
    (earlier.next + count_by (λ n. nat_lt n number) numbers)

-- the users with their earlier numbers, and the new users with the numbers that follow
abbrev pub renumbered_by : Accounts → List ℕ → Users → Accounts
renumbered_by earlier numbers users = record {
  users = each_user
      (λ name user. record user { number = kept_number earlier numbers name user.number }) users;
  next = earlier.next + length numbers;
}

-- refused if the numbers, which are below 2^32, do not suffice
abbrev pub renumbered : Accounts → Accounts → Result Accounts AuthorizerFault
renumbered accounts earlier =
    cond (nat_le (earlier.next + length (new_numbers earlier.users accounts.users)) (2 ^ 32))
    (Ok (renumbered_by earlier (new_numbers earlier.users accounts.users) accounts.users))
    (Err NoNumber)

-- the users with other numbers of groups: of the group g that which the list has at g, or g if it
-- is shorter
abbrev pub regrouped : List ℕ → Accounts → Accounts
regrouped numbers accounts = record {
  users = each_user
      (λ name user. record user {
        group = option_map (λ g. slice_index_or numbers g g) user.group;
      }) accounts.users;
  next = accounts.next;
}

-- ---- laws

-- each user has a number of its own, below that of the next user
pub record IsNumbered (accounts : Accounts) : Type 0 where
  pub below : (name : List ℕ) (user : User) → finite.get accounts.users name ≡ Some user
      → user.number < accounts.next
  pub own : HaveOwnNumbers accounts.users

-- the numbers of users after those of earlier users are kept
pub record KeepsNumbers (accounts earlier new : Accounts) : Type 0 where
  -- nobody has come or gone
  pub nobody : (name : List ℕ) → finite.get accounts.users name ≡ None
      → finite.get new.users name ≡ None
  -- a user of an earlier name has the earlier number, and is otherwise as before
  pub kept : (name : List ℕ) (user before : User)
      → finite.get accounts.users name ≡ Some user → finite.get earlier.users name ≡ Some before
      → finite.get new.users name ≡ Some (record user { number = before.number })
  -- another user has a number that no earlier user had, and is otherwise as before
  pub fresh : (name : List ℕ) (user : User) → finite.get accounts.users name ≡ Some user
      → finite.get earlier.users name ≡ None
      → (number : ℕ) × (finite.get new.users name ≡ Some (record user { number = number }))
      × (earlier.next ≤ number) × (number < new.next)
  -- each number is of one user, and below the next one
  pub numbered : IsNumbered accounts → IsNumbered earlier → IsNumbered new

-- Numbers are kept whenever the call is not refused,
abbrev pub NumbersAreKept : Type 0
NumbersAreKept =
    (accounts earlier new : Accounts) → renumbered accounts earlier ≡ Ok new
    → KeepsNumbers accounts earlier new

-- and any other calls leave each user a number of its own: those from no users on, and those after
-- numbers were kept.
abbrev pub NumbersStayOwn : Type 0
NumbersStayOwn =
    IsNumbered no_users
    × ((first : Accounts) (exchanges : List Exchange) → Follow first exchanges → IsNumbered first
    → IsNumbered (left_by first exchanges))
