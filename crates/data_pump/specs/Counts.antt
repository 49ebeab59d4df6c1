-- Number of calls of an end of a transfer, and number of those that failed, each modulo 2^64; and
-- the part that is at fault for a pump's end.
use Rattle.std.specs.Prelude.{◌≡◌, ◌⊎◌, ◌+◌, ◌%◌, ◌^◌, ℕ, Bool, true, false, Option, None, Some, Result, MatchResult}
use Rattle.line_rates.specs.declared.ask.Way.{Way}
use Rattle.line_rates.specs.declared.ask.Way.TheVariants.{Down, Up}
use Rattle.data_pump.specs.declared.pumped.FailedPart.{FailedPart}
use Rattle.data_pump.specs.declared.pumped.FailedPart.TheVariants.{Connection, Source, Sink}
use Rattle.data_pump.specs.declared.pumped.PumpEnd.{PumpEnd}
use Rattle.data_pump.specs.declared.pumped.PumpEnd.TheVariants.{Ended, More, ReadFault, WriteFault, Memory}

pub record CallCounts : Type 0 where
  pub made : ℕ
  pub failed : ℕ

abbrev pub no_calls : CallCounts
no_calls = record { made = 0; failed = 0 }

-- an end, with the counts of its calls, and the length of the buffer that its last read was lent
pub record Counted (E : Type 0) : Type 0 where
  pub end : E
  pub calls : CallCounts
  pub lent : ℕ

unfoldable pub next : ℕ → ℕ
next count = (count + 1) % 2 ^ 64

-- one more call, which succeeded or failed
abbrev pub with_passed : CallCounts → CallCounts
with_passed calls = record { made = next calls.made; failed = calls.failed }

abbrev pub with_failed : CallCounts → CallCounts
with_failed calls = record { made = next calls.made; failed = next calls.failed }

-- one more call, with this result
abbrev pub Counts : {X E : Type 0} → Result X E → CallCounts → CallCounts → Type 0
Counts answer old new = MatchResult answer (λ _. new ≡ with_passed old) (λ _. new ≡ with_failed old)

-- at most one more call was made
abbrev pub IsOnceAtMost : CallCounts → CallCounts → Type 0
IsOnceAtMost old new = (new.made ≡ old.made) ⊎ (new.made ≡ next old.made)

-- the part of a transfer that is at fault for a pump's end
abbrev pub failed_part : Way → PumpEnd → Option FailedPart
failed_part way Ended = None
failed_part way More = None
failed_part Down ReadFault = Some Source
failed_part Down WriteFault = Some Connection
failed_part Down Memory = Some Source
failed_part Up ReadFault = Some Connection
failed_part Up WriteFault = Some Sink
failed_part Up Memory = Some Sink

abbrev pub is_part : FailedPart → Option FailedPart → Bool
is_part part None = false
is_part Connection (Some Connection) = true
is_part Connection (Some Source) = false
is_part Connection (Some Sink) = false
is_part Source (Some Connection) = false
is_part Source (Some Source) = true
is_part Source (Some Sink) = false
is_part Sink (Some Connection) = false
is_part Sink (Some Source) = false
is_part Sink (Some Sink) = true

abbrev pub next_if : Bool → ℕ → ℕ
next_if true count = next count
next_if false count = count

-- one call of a part failed if the end is its fault; otherwise none did
abbrev pub FailsAsReported : Way → PumpEnd → FailedPart → CallCounts → CallCounts → Type 0
FailsAsReported way reported part old new =
    new.failed ≡ next_if (is_part part (failed_part way reported)) old.failed
