-- Limits of time of a client.
use Rattle.std.specs.Prelude.{◌≡◌, ◌+◌, ◌*◌, ◌&&◌, ℕ, Bool, true, false, not, nat_lt, Option, Some, None}
use Rattle.client_patience.specs.declared.patience.Patience.{Patience}
use Rattle.client_patience.specs.declared.waits.TimeOut.{TimeOut}
use Rattle.client_patience.specs.declared.waits.TimeOut.TheVariants.{Login, Idle}
use Rattle.client_patience.specs.declared.waits.Waits.{Waits}

-- more than that many seconds have passed since a moment in microseconds; 0 seconds are no limit
abbrev pub is_over : ℕ → ℕ → ℕ → Bool
is_over since now seconds = nat_lt 0 seconds && nat_lt (since + seconds * 1_000_000) now

-- nobody is logged in, and the time for that is over
abbrev pub is_login_over : Waits → Patience → ℕ → Bool
is_login_over waits patience now =
    not waits.is_inside && is_over waits.outside now patience.login_timeout

-- the limit that has been passed: a login's comes first
abbrev pub IsTimeOut : Waits → Patience → ℕ → Option TimeOut → Type 0
IsTimeOut waits patience now None =
    (is_login_over waits patience now ≡ false)
    × (is_over waits.heard now patience.idle_timeout ≡ false)
IsTimeOut waits patience now (Some Login) = is_login_over waits patience now ≡ true
IsTimeOut waits patience now (Some Idle) =
    (is_login_over waits patience now ≡ false)
    × (is_over waits.heard now patience.idle_timeout ≡ true)
