-- Guarantees that are owed, in 500ths of an octet, and the part of them that is handed in.
use Rattle.std.specs.Prelude.{ℕ, ◌+◌, ◌*◌, ◌/◌, ◌%◌, ◌-◌, min, nat_eq, if◌then◌else◌}
use Rattle.round_pace.specs.Earned.{begun_in, carried}
use Rattle.round_pace.specs.declared.credit.Credit.{Credit}
use Rattle.round_pace.specs.declared.credit.TheConstants.{TICKS, MOST_OWED, PARTS, MOST_PARTS}

-- number of ticks that have begun in the second of a tick since the ticks begun before
abbrev pub ticks_since : ℕ → ℕ → ℕ
ticks_since begun tick = tick % TICKS + 1 - begun_in begun tick

-- at most a tenth of a second of them
abbrev pub ticks_due : ℕ → ℕ → ℕ
ticks_due begun tick = min (ticks_since begun tick) MOST_OWED

-- number of thousandths of ticks whose earnings a rate has left, at most a tenth of a second; no
-- limit has that
abbrev pub parts_left : Credit → ℕ
parts_left c =
    if nat_eq c.rate 0 then MOST_PARTS
    else min ((c.left * (TICKS * PARTS) + (TICKS * PARTS - 1)) / c.rate) MOST_PARTS

-- the octets that a rate earns in some thousandths of a tick
abbrev pub part_share : ℕ → ℕ → ℕ
part_share rate parts = parts * rate / (TICKS * PARTS)

-- The debt of a guarantee as a tick begins: in each tick its rate more, and nothing of an earlier
-- second. At most a tenth of a second is owed.
abbrev pub owed_in : ℕ → ℕ → ℕ → ℕ → ℕ
owed_in floor owed begun tick =
    min (carried owed (begun_in begun tick) + floor * ticks_since begun tick) (floor * MOST_OWED)

-- the debt after octets were granted
abbrev pub owed_after : ℕ → ℕ → ℕ
owed_after octets owed = owed - octets * TICKS

-- the octets of a guarantee in a round: what is owed, and at most that of the thousandths of ticks
-- that the rates have left
abbrev pub floor_in : ℕ → ℕ → ℕ → ℕ
floor_in floor owed parts = min owed (floor * parts / PARTS) / TICKS
