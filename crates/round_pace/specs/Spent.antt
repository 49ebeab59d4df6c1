-- Users' transfers with nothing left in a tick that has begun.
use Rattle.std.specs.Prelude.{ℕ, ◌*◌, ◌-◌, ◌^◌, Bool, false, ◌||◌, nat_le, min, if◌then◌else◌, List, Option, Some, None}
use Rattle.std.specs.FinMap as finite
use Rattle.line_rates.specs.declared.ask.Way.{Way}
use Rattle.line_rates.specs.declared.ask.Way.TheVariants.{Down, Up}
use Rattle.line_rates.specs.Stated.{by_number}
use Rattle.round_pace.specs.declared.credit.Credit.{Credit}
use Rattle.round_pace.specs.declared.due.Due.{Due}
use Rattle.round_pace.specs.declared.due.Due.TheVariants.{Now, At}
use Rattle.round_pace.specs.declared.paced.GroupPace.{GroupPace}
use Rattle.round_pace.specs.declared.paced.UserPace.{UserPace}
use Rattle.round_pace.specs.Credits.{is_dry}
use Rattle.round_pace.specs.Earned.{tick_of}
use Rattle.round_pace.specs.Paced.{Paced, group_key, pace_number}
use Rattle.round_pace.specs.Taken.{group_of}
use Rattle.round_pace.specs.declared.credit.TheConstants.{TICK_MICROS}

-- the credit of a way
abbrev pub credit_of : Way → Credit → Credit → Credit
credit_of Down down up = down
credit_of Up down up = up

-- Nothing is left of the user, or of their sessions.
abbrev pub is_spent : Way → UserPace → Bool
is_spent way u =
    is_dry (credit_of way u.session_down u.session_up) || is_dry (credit_of way u.down u.up)

abbrev pub is_row_spent : Way → Option UserPace → Bool
is_row_spent way None = false
is_row_spent way (Some u) = is_spent way u

abbrev pub is_user_spent : Way → List UserPace → ℕ → Bool
is_user_spent way users user = is_row_spent way (finite.get (by_number pace_number users) user)

abbrev pub is_group_row_spent : Way → Option GroupPace → Bool
is_group_row_spent way None = false
is_group_row_spent way (Some g) = is_dry (credit_of way g.down g.up)

abbrev pub is_group_spent : Way → List GroupPace → Option ℕ → Bool
is_group_spent way groups None = false
is_group_spent way groups (Some group) =
    is_group_row_spent way (finite.get (by_number group_key groups) group)

-- The earliest moment of the next round for a user's transfer: now, if the tick has not begun or
-- something can be granted to it; otherwise the start of the next tick.
abbrev pub due_for_in : Way → ℕ → Paced → ℕ → Due
due_for_in way user p now =
    if nat_le p.begun (tick_of now) then Now
    else if is_dry p.server || is_dry (credit_of way p.down p.up) || is_user_spent way p.users user
    || is_group_spent way p.groups (group_of p.users user)
    then At (min (p.begun * TICK_MICROS) (2 ^ 64 - 1))
    else Now
