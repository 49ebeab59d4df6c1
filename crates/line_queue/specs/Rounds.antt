-- The steps of the thread that writes.
use Rattle.std.specs.Prelude.{ℕ, ℤ, pos, negsuc, Bool, true, false, ◌&&◌, ◌||◌, nat_eq, nat_lt, if◌then◌else◌, Option, Some, None}
use Rattle.line_queue.specs.declared.rounds.TheConstants.{LAST_WAIT}
use Rattle.line_queue.specs.declared.rounds.Readiness.{Readiness}
use Rattle.line_queue.specs.declared.rounds.Readiness.TheVariants.{Ready, Full, Gone}
use Rattle.line_queue.specs.declared.rounds.Round.{Round}
use Rattle.line_queue.specs.declared.rounds.Round.TheVariants.{Idle, Wrote, Held, Refused, Lost}
use Rattle.line_queue.specs.declared.rounds.Step.{Step}
use Rattle.line_queue.specs.declared.rounds.Step.TheVariants.{Again, Sleep, Poll, Pause, End}

abbrev is_number : ℤ → ℕ → Bool
is_number (pos n) m = nat_eq n m
is_number (negsuc n) m = false

-- poll(2) reports one descriptor, which may be written (POLLOUT is 4) and has no fault; a fault is
-- POLLERR, POLLHUP or POLLNVAL
abbrev pub readiness_of : ℤ → ℤ → Readiness
readiness_of answer events =
    if is_number answer 1 then (if is_number events 4 then Ready else Gone) else Full

abbrev has_written : Round → Bool
has_written Wrote = true
has_written Idle = false
has_written Held = false
has_written Refused = false
has_written Lost = false

abbrev is_held : Round → Bool
is_held Held = true
is_held Idle = false
is_held Wrote = false
is_held Refused = false
is_held Lost = false

-- octets are to be written, and may be later
abbrev is_left : Round → Bool
is_left Held = true
is_left Refused = true
is_left Idle = false
is_left Wrote = false
is_left Lost = false

abbrev is_idle : Round → Bool
is_idle Idle = true
is_idle Wrote = false
is_idle Held = false
is_idle Refused = false
is_idle Lost = false

-- only a reader that is to make room is waited for by poll(2): whoever refused is ready
abbrev pub held_step : Round → Step
held_step first = if is_held first then Poll else Pause

abbrev pub open_step : Round → Round → Step
open_step first second =
    if has_written first || has_written second then Again
    else if is_idle first && is_idle second then Sleep
    else held_step first

-- At the end what is left is written for at most LAST_WAIT, and only while there is a reader.
abbrev pub last_step : Round → Round → ℕ → Step
last_step first second since =
    if nat_lt LAST_WAIT since then End
    else if has_written first || has_written second then Again
    else if is_left first || is_left second then held_step first
    else End

abbrev pub next_step : Round → Round → Option ℕ → Step
next_step first second None = open_step first second
next_step first second (Some since) = last_step first second since
