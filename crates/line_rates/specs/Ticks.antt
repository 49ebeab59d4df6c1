-- The octets that a rate allows in a tick of a tenth of a second.
use Rattle.std.specs.Prelude.{◌≡◌, ℕ, ◌+◌, ◌-◌, ◌*◌, ◌/◌, ◌%◌, nat_eq, if◌then◌else◌, Option, Some, None}
use Rattle.limit_tree.specs.Sharing.{sum_below}

-- the octets that a rate above 0 allows in a tick, in whole octets
abbrev pub share_of : ℕ → ℕ → ℕ
share_of rate tick = (tick % 10 + 1) * rate / 10 - tick % 10 * rate / 10

-- the limit of a rate in a tick; a rate of 0 is no limit
abbrev pub rate_limit : ℕ → ℕ → Option ℕ
rate_limit rate tick = if nat_eq rate 0 then None else Some (share_of rate tick)

-- ten consecutive ticks together allow exactly the rate
abbrev pub TenTicks : Type 0
TenTicks = (rate tick : ℕ) → sum_below 10 (λ j. share_of rate (tick + j)) ≡ rate
