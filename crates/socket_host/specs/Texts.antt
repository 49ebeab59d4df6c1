-- The octets of a read and of a last reply, and the errors of a read that only found nothing.
use Rattle.std.specs.Prelude.{◌++◌, ◌+◌, nat_eq, nat_lt, ◌&&◌, ◌||◌, not, if◌then◌else◌, ℕ, Bool, true, false, List, [], ◌∷◌, Option, Some, None, codes, take}
use Rattle.std.specs.declared.alloc.Global.{Global}
use Rattle.std.specs.declared.io.ErrorKind.{ErrorKind}
use Rattle.std.specs.declared.io.ErrorKind.TheVariants.{WouldBlock, TimedOut, Interrupted}
use Rattle.control_session.specs.declared.host.Piece.{Piece}
use Rattle.client_patience.specs.declared.waits.TimeOut.{TimeOut}
use Rattle.client_patience.specs.declared.waits.TimeOut.TheVariants.{Login, Idle}
use Rattle.session_table.specs.declared.inputs.Input.{Input}
use Rattle.session_table.specs.declared.inputs.Input.TheVariants.{DataReady}
use Rattle.control_session.specs.declared.host.Piece.TheVariants.{Octets, Nothing, AtEnd}

abbrev pub octets_in : Piece → List ℕ → List ℕ
octets_in (Octets count) buffer = take count buffer
octets_in Nothing buffer = []
octets_in AtEnd buffer = []

abbrev pub is_pause : ErrorKind → Bool
is_pause WouldBlock = true
is_pause TimedOut = true
is_pause Interrupted = true
is_pause _ = false

-- the time-out of a read, in milliseconds: one while something runs, otherwise 200, or 2,000 once
-- fifty reads in a row found nothing
abbrev pub time_out_of : Bool → ℕ → ℕ
time_out_of true silences = 1
time_out_of false silences = if nat_lt silences 50 then 200 else 2000

-- an octet ends its line only if it is LF
abbrev pub is_open_after : Option ℕ → Bool
is_open_after None = false
is_open_after (Some octet) = not (nat_eq octet 10)

-- the longest wait for a client beside what its transfer waits for, in milliseconds: one within a
-- line, otherwise 200, or 1,000 once nothing came in ten of them in a row
abbrev pub beside_of : Bool → ℕ → ℕ
beside_of true rests = 1
beside_of false rests = if nat_lt rests 10 then 200 else 1000

-- the number of these, counted up to ten
abbrev pub rests_after : ℕ → ℕ
rests_after rests = if nat_lt rests 10 then rests + 1 else rests

-- the last reply to a client that has passed a limit of time
abbrev pub time_out_reply : TimeOut → List ℕ
time_out_reply Login = codes "421 Login timed out" ++ 13 ∷ 10 ∷ []
time_out_reply Idle = codes "421 Idle too long" ++ 13 ∷ 10 ∷ []

-- the last reply to a client whose session is to end otherwise: at once if the sessions end, or if
-- the owner has ended this one; if the server drains, or the user is none any more, once nothing
-- that it began is left to report
abbrev pub last_reply : Bool → Bool → Bool → Bool → Bool → Option (List ℕ)
last_reply ends drains is_ended is_removed is_busy =
    if ends || (drains && not is_busy) then Some (codes "421 Server is ending" ++ 13 ∷ 10 ∷ [])
    else if is_ended
    then Some (codes "421 Session ended by the administrator" ++ 13 ∷ 10 ∷ [])
    else if is_removed && not is_busy
    then Some (codes "421 User is not served any more" ++ 13 ∷ 10 ∷ [])
    else None

-- a passive port was asked for, and none could be had
abbrev pub is_without_port : {K : Type 0} → Option (Input Global K) → Bool
is_without_port (Some (DataReady None)) = true
is_without_port _ = false
