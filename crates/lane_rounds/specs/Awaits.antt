-- Waits of rounds for transfers with a guarantee.
use Rattle.std.specs.Prelude.{ℕ, ◌+◌, ◌-◌, ◌*◌, ◌^◌, max, min, nat_eq, nat_lt, Bool, ◌&&◌, ◌||◌, not, if◌then◌else◌}
use Rattle.lane_rounds.specs.declared.awaiting.Awaited.{Awaited}
use Rattle.lane_rounds.specs.declared.awaiting.TheConstants.{GRACE}
use Rattle.line_rates.specs.declared.ask.Way.{Way}
use Rattle.line_rates.specs.declared.ask.Way.TheVariants.{Down, Up}
use Rattle.round_pace.specs.declared.credit.TheConstants.{TICK_MICROS}
use Rattle.round_pace.specs.declared.due.Due.{Due}
use Rattle.round_pace.specs.declared.due.Due.TheVariants.{At}

abbrev pub nobody : Awaited
nobody = record { down = 0; up = 0 }

-- one more transfer, whose rows open in a tick
abbrev pub awaiting : Way → ℕ → Awaited → Awaited
awaiting Down opens a = record { down = max a.down opens; up = a.up }
awaiting Up opens a = record { down = a.down; up = max a.up opens }

-- Transfers whose rows open in a tick wait in another: the rows were drained, one that is waited
-- for opens with them, and its ticks have not passed.
abbrev pub is_held_back : ℕ → ℕ → Awaited → Bool
is_held_back opens tick a =
    not (nat_eq opens 0) && (nat_eq opens a.down || nat_eq opens a.up)
    && nat_lt tick (min (opens + GRACE) (2 ^ 64 - 1))

-- the earliest moment of their round, in microseconds
abbrev pub due_beside : ℕ → ℕ → Due → Awaited → Due
due_beside opens tick due a =
    if is_held_back opens tick a
    then At (min (min (opens + GRACE) (2 ^ 64 - 1) * TICK_MICROS) (2 ^ 64 - 1))
    else due
