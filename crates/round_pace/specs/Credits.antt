-- Credits: what a rate has earned and no round has granted.
use Rattle.std.specs.Prelude.{ℕ, ◌-◌, ◌≤◌, Bool, ◌&&◌, not, nat_eq}
use Rattle.line_rates.specs.declared.rate.TheConstants.{MAX_RATE}
use Rattle.round_pace.specs.declared.credit.Credit.{Credit}
use Rattle.round_pace.specs.Earned.{refilled, most_kept}

-- a rate that limits can have, with at most what is kept left
pub record IsCredit (c : Credit) : Type 0 where
  pub rate_fits : c.rate ≤ MAX_RATE
  pub left_fits : c.left ≤ most_kept c.rate

-- a credit as a tick begins
abbrev pub refill_row : ℕ → ℕ → Credit → Credit
refill_row begun tick c = record { rate = c.rate; left = refilled c.rate c.left begun tick }

-- a credit after octets were granted
abbrev pub take_row : ℕ → Credit → Credit
take_row octets c = record { rate = c.rate; left = c.left - octets }

-- a rate has nothing left
abbrev pub is_dry : Credit → Bool
is_dry c = not (nat_eq c.rate 0) && nat_eq c.left 0
