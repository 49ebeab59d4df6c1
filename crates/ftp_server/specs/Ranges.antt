-- The ranges of a server's numbers: those of the keys of a configuration, and of the options of the
-- program.
use Rattle.std.specs.Prelude.{ℕ, Bool, ◌||◌, nat_eq, nat_lt, if◌then◌else◌, Option, Some, None}
use Rattle.client_patience.specs.declared.patience.Patience.{Patience}
use Rattle.server_config.specs.declared.settings.ServerNumbers.{ServerNumbers}
use Rattle.ftp_server.specs.declared.ranges.NumberFault.{NumberFault}
use Rattle.ftp_server.specs.declared.ranges.NumberFault.TheVariants.{Port, PassivePorts, Lanes, MaxCons, MaxConsPerAddress, LoginAttempts, UserSessions, LoginTimeout, IdleTimeout, LoginDelay, DrainTimeout}
use Rattle.ftp_server.specs.declared.server.FtpServer.{FtpServer}

-- the number is 0, or above the other one
abbrev pub is_out_of : ℕ → ℕ → Bool
is_out_of most number = nat_eq number 0 || nat_lt most number

-- the first port or count out of its range
abbrev pub count_fault : ServerNumbers → Option NumberFault
count_fault numbers =
    if nat_eq numbers.port 0 then Some Port
    else if nat_eq numbers.passive_first 0 || nat_lt numbers.passive_last numbers.passive_first
    then Some PassivePorts
    else if is_out_of 64 numbers.lanes then Some Lanes
    else if is_out_of 512 numbers.max_cons then Some MaxCons
    else if nat_lt 512 numbers.max_cons_per_address then Some MaxConsPerAddress
    else None

-- the first limit of time above a day
abbrev pub time_fault : Patience → Option NumberFault
time_fault patience =
    if nat_lt 86400 patience.login_timeout then Some LoginTimeout
    else if nat_lt 86400 patience.idle_timeout then Some IdleTimeout
    else if nat_lt 86400 patience.login_delay then Some LoginDelay
    else if nat_lt 86400 patience.drain_timeout then Some DrainTimeout
    else None

-- the first that there is
abbrev pub first_fault : Option NumberFault → Option NumberFault → Option NumberFault
first_fault None second = second
first_fault (Some fault) second = Some fault

-- the first number of logins out of its range
abbrev pub login_fault : ℕ → ℕ → Option NumberFault
login_fault attempts user_sessions =
    if is_out_of 100 attempts then Some LoginAttempts
    else if nat_lt 65535 user_sessions then Some UserSessions
    else None

-- the first number out of its range
abbrev pub number_fault : ServerNumbers → ℕ → ℕ → Patience → Option NumberFault
number_fault numbers attempts user_sessions patience =
    first_fault (count_fault numbers)
    (first_fault (login_fault attempts user_sessions) (time_fault patience))

-- that of a server
abbrev pub range_fault : FtpServer → Option NumberFault
range_fault server =
    number_fault server.numbers server.settings.login_attempts server.user_sessions server.patience
