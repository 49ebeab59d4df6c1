-- Sums over transfers.
use Rattle.std.specs.Prelude.{ℕ, ◌+◌, ◌/◌, ◌^◌, Bool, ◌&&◌, nat_eq, nat_lt, if◌then◌else◌, List, [], ◌∷◌, length, Option, Some, None}
use Rattle.std.specs.List.{sum_by}
use Rattle.log_lines.specs.Lines.{Line}
use Rattle.usage_report.specs.declared.adding.Sums.{Sums}

-- the sums with one more transfer
abbrev pub plus : Sums → Line → Sums
plus tally line = record {
  transfers = tally.transfers + 1;
  octets = tally.octets + line.size.octets;
  seconds = tally.seconds + line.size.seconds;
}

-- the sums of no transfers
abbrev pub no_tally : Sums
no_tally = record { transfers = 0; octets = 0; seconds = 0 }

-- each is below 2^64
abbrev pub fits : Sums → Bool
fits tally =
    nat_lt tally.transfers (2 ^ 64) && nat_lt tally.octets (2 ^ 64)
    && nat_lt tally.seconds (2 ^ 64)

-- the sums of some transfers: their number, their octets and their seconds
abbrev pub tally_of : List Line → Sums
tally_of lines = record {
  transfers = length lines;
  octets = sum_by (λ line. line.size.octets) lines;
  seconds = sum_by (λ line. line.size.seconds) lines;
}

-- the row of some transfers, unless there are none
abbrev pub row_of : List Line → Option Sums
row_of [] = None
row_of (line ∷ lines) = Some (tally_of (line ∷ lines))

-- the octets a second of transfers, rounded down, if they took a second at least
abbrev pub octets_a_second : Sums → Option ℕ
octets_a_second tally =
    if nat_eq tally.seconds 0 then None else Some (tally.octets / tally.seconds)
