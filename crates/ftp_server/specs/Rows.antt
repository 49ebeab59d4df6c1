-- The rates of a server of one's own.
use Rattle.std.specs.Prelude.{◌≡◌, ◌⊎◌, ℕ, Bool, false, nat_eq, if◌then◌else◌, List, [], ◌∷◌, ◌++◌, Option, Some, None, Result, Err}
use Rattle.std.specs.FinMap as finite
use Rattle.authorizer.specs.Users.{User, Users}
use Rattle.line_rates.specs.Rates.{Rates, shared_by}
use Rattle.line_rates.specs.Stated.{limits_fault, stated}
use Rattle.line_rates.specs.declared.fault.LimitsFault.{LimitsFault}
use Rattle.line_rates.specs.declared.row.UserRate.{UserRate}
use Rattle.ftp_server.specs.declared.fault.FtpServerFault.{FtpServerFault}
use Rattle.ftp_server.specs.declared.fault.FtpServerFault.TheVariants.{Rate, Memory}
use Rattle.ftp_server.specs.declared.rates.SetRates.{SetRates}
use Rattle.ftp_server.specs.declared.rates.UserRates.{UserRates}
use Rattle.ftp_server.specs.declared.server.FtpServer.{FtpServer}

-- no limit and no guarantee
abbrev pub no_rates : UserRates
no_rates = record {
  down = 0;
  up = 0;
  session_down = 0;
  session_up = 0;
  session_down_floor = 0;
  session_up_floor = 0;
}

-- the rates of a number after these were set
abbrev pub later : UserRates → SetRates → ℕ → UserRates
later found set number = if nat_eq set.number number then set.rates else found

abbrev pub last_after : UserRates → List SetRates → ℕ → UserRates
last_after found [] number = found
last_after found (set ∷ rest) number = last_after (later found set number) rest number

-- the rates that were set last for a number; none if none were set
abbrev pub last_set : List SetRates → ℕ → UserRates
last_set set number = last_after no_rates set number

abbrev pub row_with : ℕ → Option ℕ → UserRates → UserRate
row_with user group rates = record {
  user = user;
  group = group;
  down = rates.down;
  up = rates.up;
  session_down = rates.session_down;
  session_up = rates.session_up;
  session_down_floor = rates.session_down_floor;
  session_up_floor = rates.session_up_floor;
}

-- the row of a user: the rates that were set last for their number, and their group
abbrev pub user_row : List SetRates → User → UserRate
user_row set user = row_with user.number user.group (last_set set user.number)

abbrev pub found_row : List SetRates → Option User → Option UserRate
found_row set None = None
found_row set (Some user) = Some (user_row set user)

abbrev pub row_list : Option UserRate → List UserRate
row_list None = []
row_list (Some row) = row ∷ []

-- the rows of the users with these names, in their order
abbrev pub named_rows : Users → List SetRates → List (List ℕ) → List UserRate
named_rows users set [] = []
named_rows users set (name ∷ names) =
    row_list (found_row set (finite.get users name)) ++ named_rows users set names

-- a row for each user, in the order of their names
abbrev pub user_rows : Users → List SetRates → List UserRate
user_rows users set = named_rows users set (finite.keys users)

-- The rates of a server: those of the line, of its groups, and of each of its users; and among whom
-- the line is shared.
abbrev pub server_rates : FtpServer → Rates
server_rates server = shared_by server.share_by
    (stated server.rate server.down_rate server.up_rate server.groups.items
    (user_rows server.users.users server.user_rates.items))

-- the first fault of these rates
abbrev pub rates_fault : FtpServer → Option LimitsFault
rates_fault server = limits_fault server.rate server.down_rate server.up_rate server.groups.items
    (user_rows server.users.users server.user_rates.items)

-- refused for this fault of the rates, unless memory ran out
abbrev pub IsRefusedFor : {X : Type 0} → LimitsFault → Result X FtpServerFault → Type 0
IsRefusedFor fault result = (result ≡ Err (Rate fault)) ⊎ (result ≡ Err Memory)

-- an owner without signs puts no other rates in force
abbrev pub no_others : Rates → Bool
no_others rates = false
