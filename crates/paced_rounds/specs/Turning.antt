-- The octets that each lane has had in a second, by which remainders go by turns.
use Rattle.std.specs.Prelude.{ℕ, ◌+◌, ◌-◌, ◌*◌, ◌/◌, ◌%◌, ◌^◌, min, nat_eq, if◌then◌else◌, List, [], ◌∷◌, slice_index_or, slice_set, Result, Ok, Err}
use Rattle.lane_desk.specs.declared.record.RoundRecord.{RoundRecord}
use Rattle.lane_desk.specs.declared.record.RoundFault.{RoundFault}
use Rattle.paced_rounds.specs.declared.turns.TheConstants.{RISING, FALLING}

-- the second of a moment in microseconds
abbrev pub second_of : ℕ → ℕ
second_of now = now / 1000000

-- the numbers as a second begins, in 64ths of an octet: less than one, so that of two lanes the
-- lower comes first in one second, and the other in the next
abbrev pub starts : ℕ → List ℕ
starts second = if nat_eq (second % 2) 0 then RISING else FALLING

-- after a grant to a lane, and after one to each of these
abbrev pub had_more : ℕ → ℕ → List ℕ → List ℕ
had_more lane octets had =
    slice_set had lane (min (slice_index_or had lane 0 + 64 * octets) (2 ^ 64 - 1))

abbrev pub had_all : List ℕ → List ℕ → List ℕ → List ℕ
had_all [] grants had = had
had_all (lane ∷ lanes) [] had = had
had_all (lane ∷ lanes) (n ∷ grants) had = had_all lanes grants (had_more lane n had)

-- as a round begins at a moment, if the last was at another
abbrev pub had_at : ℕ → ℕ → List ℕ → List ℕ
had_at now latest had =
    if nat_eq (second_of latest) (second_of now) then had else starts (second_of now)

-- after the round; a refused one grants nothing
abbrev pub had_after : {A : Type 0} → Result (RoundRecord A) RoundFault → List ℕ → List ℕ
had_after (Ok r) had = had_all r.lanes.items r.sealed.grants had
had_after (Err f) had = had
