-- Changes to a server that has not begun.
use Rattle.std.specs.Prelude.{◌≡◌, ◌≢◌, ℕ, List, [], ◌∷◌, ◌++◌, length, Option, Some, None, ⊤}
use Rattle.std.specs.FinMap as finite
use Rattle.authorizer.specs.Users.{Accounts, User}
use Rattle.authorizer.specs.declared.fault.AuthorizerFault.{AuthorizerFault}
use Rattle.authorizer.specs.declared.fault.AuthorizerFault.TheVariants.{NoSuchUser}
use Rattle.line_rates.specs.declared.row.GroupRate.{GroupRate}
use Rattle.ftp_server.specs.Rows.{last_set, row_with, user_row}
use Rattle.ftp_server.specs.declared.fault.FtpServerFault.{FtpServerFault}
use Rattle.ftp_server.specs.declared.fault.FtpServerFault.TheVariants.{User as OfUser, Memory}
use Rattle.ftp_server.specs.declared.rates.SetRates.{SetRates}
use Rattle.ftp_server.specs.declared.rates.UserRates.{UserRates}
use Rattle.ftp_server.specs.declared.server.FtpServer.{FtpServer}

-- everything but the rates of groups and users stays
pub record IsSameButRates (old new : FtpServer) : Type 0 where
  pub users : new.users ≡ old.users
  pub rate : new.rate ≡ old.rate
  pub down_rate : new.down_rate ≡ old.down_rate
  pub up_rate : new.up_rate ≡ old.up_rate
  pub numbers : new.numbers ≡ old.numbers
  pub settings : new.settings ≡ old.settings
  pub patience : new.patience ≡ old.patience
  pub user_sessions : new.user_sessions ≡ old.user_sessions
  pub share_by : new.share_by ≡ old.share_by
  pub syncs : new.syncs ≡ old.syncs

-- everything stays
pub record IsSame (old new : FtpServer) : Type 0 where
  pub groups : new.groups.items ≡ old.groups.items
  pub user_rates : new.user_rates.items ≡ old.user_rates.items
  pub same : IsSameButRates old new

-- the user of this name has these rates and their group, and those of others stay
pub record HasRates (old : FtpServer) (name : List ℕ) (rates : UserRates)
    (new : FtpServer) : Type 0 where
  pub user : User
  pub named : finite.get old.users.users name ≡ Some user
  pub set : new.user_rates.items
      ≡ old.user_rates.items ++ record { number = user.number; rates = rates } ∷ []
  pub row : user_row new.user_rates.items user ≡ row_with user.number user.group rates
  pub others : (number : ℕ) → number ≢ user.number
      → last_set new.user_rates.items number ≡ last_set old.user_rates.items number
  pub groups : new.groups.items ≡ old.groups.items
  pub same : IsSameButRates old new

-- the group is the last one, and its number is that of the groups before it
pub record HasGroup (old : FtpServer) (group down up : ℕ) (new : FtpServer) : Type 0 where
  pub number : group ≡ length old.groups.items
  pub added : new.groups.items
      ≡ old.groups.items ++ record { group = group; down = down; up = up } ∷ []
  pub user_rates : new.user_rates.items ≡ old.user_rates.items
  pub same : IsSameButRates old new

-- there is no user of this name, or memory ran out
abbrev pub IsRateFault : Accounts → List ℕ → FtpServerFault → Type 0
IsRateFault accounts name (OfUser fault) =
    (fault ≡ NoSuchUser) × (finite.get accounts.users name ≡ None)
IsRateFault accounts name Memory = ⊤
IsRateFault accounts name fault = ⊥
