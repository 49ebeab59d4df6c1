-- A guarantee over the rounds of a second.
use Rattle.std.specs.Prelude.{◌≡◌, ℕ, ◌+◌, ◌-◌, ◌*◌, ◌/◌, ◌≤◌, Bool, true, nat_le, if◌then◌else◌, List, [], ◌∷◌, sum_by}
use Rattle.round_pace.specs.declared.credit.TheConstants.{TICKS, MOST_OWED, PARTS}
use Rattle.round_pace.specs.Earned.{share, begun_in, carried}
use Rattle.round_pace.specs.FloorsFit.{ticks_since, owed_in, owed_after, floor_in}

-- a round by its tick, its grant to a session with a guarantee, whether that asked in it for at
-- least what is handed in, and the thousandths of ticks that each of the session's rates had left
pub record OwedRound : Type 0 where
  pub tick : ℕ
  pub granted : ℕ
  pub asks : Bool
  pub parts : ℕ

-- the debt in a round: that as its tick begins, in the first round of the tick
abbrev pub owed_at : ℕ → ℕ → ℕ → ℕ → ℕ
owed_at floor owed begun tick = if nat_le begun tick then owed_in floor owed begun tick else owed

-- Rounds from a debt and a number of ticks begun: none is in an earlier tick than the one before,
-- and each grants a session that asks at least what is handed in for it.
abbrev pub AreOwed : ℕ → ℕ → ℕ → List OwedRound → Type 0
AreOwed floor owed begun [] = Unit {0}
AreOwed floor owed begun (r ∷ rs) = (begun ≤ r.tick + 1)
    × (r.asks ≡ true → floor_in floor (owed_at floor owed begun r.tick) r.parts ≤ r.granted)
    × AreOwed floor (owed_after r.granted (owed_at floor owed begun r.tick)) (r.tick + 1) rs

-- the debt as a tick begins, before it is cut to that of a tenth of a second
abbrev pub owed_uncut : ℕ → ℕ → ℕ → ℕ → ℕ
owed_uncut floor owed begun tick =
    carried owed (begun_in begun tick) + floor * ticks_since begun tick

-- they are in a second, and nothing of what is owed is cut
abbrev pub ArePromptFor : ℕ → ℕ → ℕ → ℕ → List OwedRound → Type 0
ArePromptFor second floor owed begun [] = Unit {0}
ArePromptFor second floor owed begun (r ∷ rs) = (r.tick / TICKS ≡ second)
    × (begun ≤ r.tick → owed_uncut floor owed begun r.tick ≤ floor * MOST_OWED)
    × ArePromptFor second floor (owed_after r.granted (owed_at floor owed begun r.tick))
    (r.tick + 1) rs

-- the last round is one in which the session asks, and its rates have as many ticks left as it is
-- owed
abbrev pub EndsAsked : ℕ → ℕ → ℕ → List OwedRound → Type 0
EndsAsked floor owed begun [] = ⊥
EndsAsked floor owed begun (r ∷ []) = (r.asks ≡ true)
    × (owed_at floor owed begun r.tick ≤ floor * r.parts / PARTS)
EndsAsked floor owed begun (r ∷ s ∷ rs) =
    EndsAsked floor (owed_after r.granted (owed_at floor owed begun r.tick)) (r.tick + 1) (s ∷ rs)

abbrev pub last_tick : ℕ → List OwedRound → ℕ
last_tick tick [] = tick
last_tick tick (r ∷ rs) = last_tick r.tick rs

abbrev pub granted_in : OwedRound → ℕ
granted_in r = r.granted

-- Whatever rounds there were, once a session has asked in a round it has been granted its guarantee
-- for all ticks of the second that have begun, to the octet.
abbrev pub KeepsGuarantees : Type 0
KeepsGuarantees =
    (second floor owed begun : ℕ) (r : OwedRound) (rs : List OwedRound) → begun ≤ TICKS * second
    → AreOwed floor owed begun (r ∷ rs) → ArePromptFor second floor owed begun (r ∷ rs)
    → EndsAsked floor owed begun (r ∷ rs)
    → share floor (last_tick r.tick rs + 1 - TICKS * second) ≤ sum_by granted_in (r ∷ rs)
