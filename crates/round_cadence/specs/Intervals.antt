-- Intervals of rows, and the ticks in which a closed row opens.
use Rattle.std.specs.Prelude.{◌≡◌, ℕ, ◌+◌, ◌-◌, ◌*◌, ◌%◌, ◌^◌, ◌<◌, ◌≤◌, min, Bool, true, false, ◌||◌, nat_eq, nat_le, if◌then◌else◌, List, [], ◌∷◌}
use Rattle.round_pace.specs.declared.credit.TheConstants.{TICKS}
use Rattle.round_cadence.specs.declared.intervals.TheConstants.{LONGEST, LAST_BUT_TEN}

-- in this number of ticks, a rate earns these octets
abbrev pub earns : ℕ → ℕ → ℕ → Bool
earns rate octets ticks = nat_le (octets * TICKS) (rate * ticks)

-- the first of these that does; the longest interval if none does
abbrev pub first_earning : ℕ → ℕ → List ℕ → ℕ
first_earning rate octets [] = LONGEST
first_earning rate octets (ticks ∷ rest) =
    if earns rate octets ticks then ticks else first_earning rate octets rest

abbrev pub shorter : List ℕ
shorter = 1 ∷ 2 ∷ 4 ∷ 8 ∷ 16 ∷ []

abbrev pub interval_of : ℕ → ℕ → ℕ
interval_of rate octets = first_earning rate octets shorter

-- the least power of two of ticks that earns enough, and at most the longest interval
pub record IsInterval (rate octets ticks : ℕ) : Type 0 where
  pub power : (k : ℕ) × (ticks ≡ 2 ^ k)
  pub most : ticks ≤ LONGEST
  pub enough : ticks < LONGEST → earns rate octets ticks ≡ true
  pub least : (k : ℕ) → 2 ^ k < ticks → earns rate octets (2 ^ k) ≡ false

-- A row of this interval opens in a tick: in the last of each interval since the second began, and
-- in the last tick of the second and the last but ten.
abbrev pub is_opening : ℕ → ℕ → Bool
is_opening interval tick =
    nat_eq ((tick % TICKS + 1) % interval) 0 || nat_eq (tick % TICKS) LAST_BUT_TEN
    || nat_eq (tick % TICKS) (TICKS - 1)

-- the first tick after a tick in which a row of this interval opens
pub record IsNextOpening (tick interval next : ℕ) : Type 0 where
  pub later : tick < next
  pub soon : next ≤ tick + interval
  pub opens : is_opening interval next ≡ true
  pub first : (other : ℕ) → tick < other → other < next → is_opening interval other ≡ false

-- the same by reckoning: `place` is the number of the next tick in its second, and the first of the
-- two ends that is not before it is an opening
abbrev pub end_from : ℕ → ℕ
end_from place = if nat_le place LAST_BUT_TEN then LAST_BUT_TEN else TICKS - 1

abbrev pub opening_from : ℕ → ℕ → ℕ
opening_from place interval =
    min (interval - 1 - place % interval) (end_from place - place)

abbrev pub next_opening : ℕ → ℕ → ℕ
next_opening tick interval = tick + 1 + opening_from ((tick + 1) % TICKS) interval
