-- The numbers of users, with the authorizer and in the limits.
use Rattle.std.specs.Prelude.{◌≡◌, ℕ, List, Some, slice_get}
use Rattle.std.specs.FinMap as finite
use Rattle.authorizer.specs.Users.{Accounts, User}
use Rattle.server_config.specs.RateRows.{user_row}
use Rattle.config_file.specs.declared.stated.UserTable.{UserTable}
use Rattle.config_file.specs.declared.tables.Tables.{Tables}
use Rattle.server_config.specs.Configs.{IsMadeOf}
use Rattle.server_config.specs.declared.config.Config.{Config}

-- the user of that name has that number
abbrev pub HasNumber : Accounts → List ℕ → ℕ → Type 0
HasNumber accounts name number =
    (user : User) × (finite.get accounts.users name ≡ Some user) × (user.number ≡ number)

-- Each user of a file has the number of their place there, from 0, with the authorizer, and the
-- limits have the rates of their table under that number.
abbrev pub NumbersAgree : Type 0
NumbersAgree =
    (tables : Tables) (config : Config) → IsMadeOf tables config → (k : ℕ) (user : UserTable)
    → slice_get tables.users.items k ≡ Some user
    → HasNumber config.users user.name.now k
    × (finite.get config.limits.users k ≡ Some (user_row tables.groups.items k user))
