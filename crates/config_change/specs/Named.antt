-- Groups and users by their names: the places of names, and the rows of rates under other numbers.
use Rattle.std.specs.Prelude.{ℕ, ◌+◌, not, cond, List, [], ◌∷◌, ◌++◌, map, Option, Some, None, bytes_eq, is_some, unwrap_or, option_map, option_and_then, slice_index_or}
use Rattle.std.specs.FinMap as finite
use Rattle.std.specs.List.{filter}
use Rattle.authorizer.specs.Users.{Accounts}
use Rattle.line_rates.specs.Rates.{Rates}
use Rattle.line_rates.specs.declared.row.GroupRate.{GroupRate}
use Rattle.line_rates.specs.declared.row.UserRate.{UserRate}

-- the place of a name among names
abbrev pub place_in : List (List ℕ) → List ℕ → Option ℕ
place_in [] name = None
place_in (other ∷ names) name =
    cond (bytes_eq other name) (Some 0) (option_map (λ k. k + 1) (place_in names name))

-- the old names, and then the names that are not among them
abbrev pub merged : List (List ℕ) → List (List ℕ) → List (List ℕ)
merged old names = old ++ filter (λ name. not (is_some (place_in old name))) names

-- the places of names among all names
abbrev pub places_in : List (List ℕ) → List (List ℕ) → List ℕ
places_in all names = map (λ name. unwrap_or (place_in all name) 0) names

abbrev pub group_after : ℕ → Option GroupRate → List GroupRate
group_after place None = []
group_after place (Some row) = (record row { group = place }) ∷ []

-- the rates of the groups from a number on, each under its place
abbrev pub group_rows : Rates → ℕ → List ℕ → List GroupRate
group_rows rates k [] = []
group_rows rates k (place ∷ places) =
    group_after place (finite.get rates.groups k) ++ group_rows rates (k + 1) places

-- the rates of a user by name
abbrev pub rates_named : Accounts → Rates → List ℕ → Option UserRate
rates_named accounts rates name =
    option_and_then (λ user. finite.get rates.users user.number) (finite.get accounts.users name)

abbrev pub user_after : List ℕ → Option ℕ → Option UserRate → List UserRate
user_after places None row = []
user_after places (Some number) None = []
user_after places (Some number) (Some row) =
    (record row {
      user = number;
      group = option_map (λ g. slice_index_or places g g) row.group;
    }) ∷ []

abbrev pub number_named : Accounts → List ℕ → Option ℕ
number_named accounts name =
    option_map (λ user. user.number) (finite.get accounts.users name)

-- the rates of users by name, under the numbers of the users and the places of their groups
abbrev pub user_rows : Accounts → Accounts → Rates → List ℕ → List (List ℕ) → List UserRate
user_rows before after rates places [] = []
user_rows before after rates places (name ∷ names) =
    user_after places (number_named after name) (rates_named before rates name)
    ++ user_rows before after rates places names
