-- A bounded queue of lines, and what is written of it.
use Rattle.std.specs.Prelude.{ℕ, ◌+◌, Bool, true, false, ◌&&◌, nat_eq, nat_le, nat_lt, if◌then◌else◌, min, List, [], ◌∷◌, ◌++◌, length, take, drop, codes, refl}
use Rattle.std.specs.Fmt.{decimal}
use Rattle.std.specs.Coded.{Coded, code_by, coded×, coded_ℕ, coded_list}
use Rattle.line_queue.specs.declared.queue.TheConstants.{MAX_LINES, MAX_OCTETS, MAX_WRITE, REPORT_LINES, REPORT_OCTETS}

-- Lines with their ends, the oldest first; the number of octets of the first that are written; and
-- the number of lines that were dropped since the last line that was taken in.
pub record Queue : Type 0 where
  pub lines : List (List ℕ)
  pub begun : ℕ
  pub dropped : ℕ

abbrev pub queue_of : List (List ℕ) → ℕ → ℕ → Queue
queue_of lines begun dropped = record { lines = lines; begun = begun; dropped = dropped }

abbrev pub empty : Queue
empty = record { lines = []; begun = 0; dropped = 0 }

abbrev is_nil : List (List ℕ) → Bool
is_nil [] = true
is_nil (line ∷ lines) = false

-- the octets of all lines
abbrev pub octets_of : List (List ℕ) → ℕ
octets_of [] = 0
octets_of (line ∷ lines) = length line + octets_of lines

abbrev pub fits_within : ℕ → ℕ → Queue → List ℕ → Bool
fits_within lines octets queue line =
    nat_lt (length queue.lines) lines && nat_le (octets_of queue.lines + length line) octets

abbrev pub has_room : Queue → List ℕ → Bool
has_room queue line = fits_within MAX_LINES MAX_OCTETS queue line

-- room for the count of dropped lines: half of the queue, so that a slow reader gets lines again
-- and not a count after each line
abbrev pub has_report_room : Queue → List ℕ → Bool
has_report_room queue line = fits_within REPORT_LINES REPORT_OCTETS queue line

-- the queue with one more line, and none dropped since
abbrev pub with_line : Queue → List ℕ → Queue
with_line queue line =
    record { lines = queue.lines ++ line ∷ []; begun = queue.begun; dropped = 0 }

abbrev pub one_dropped : Queue → Queue
one_dropped queue =
    record { lines = queue.lines; begun = queue.begun; dropped = queue.dropped + 1 }

-- A line is taken in if there is room, and if no line was dropped since the last that was: the
-- count of those comes first.
abbrev pub offered : Queue → List ℕ → Queue
offered queue line =
    if nat_eq queue.dropped 0 && has_room queue line then with_line queue line
    else one_dropped queue

-- the line with the count of dropped lines
abbrev pub count_text : List ℕ → ℕ → List ℕ
count_text head count = head ++ codes "lines dropped: " ++ decimal count ++ 10 ∷ []

-- the count of dropped lines is taken in once there is room for it
abbrev pub reported : Queue → List ℕ → Queue
reported queue head =
    if nat_eq queue.dropped 0 then queue
    else if has_report_room queue (count_text head queue.dropped)
    then with_line queue (count_text head queue.dropped)
    else queue

-- the count of dropped lines of the transfer log, in a note
abbrev pub transfers_text : List ℕ → ℕ → List ℕ
transfers_text head count =
    head ++ codes "lines of the transfer log dropped: " ++ decimal count ++ 10 ∷ []

-- The count of dropped lines that is reported elsewhere: once all others are written.
abbrev pub settled_count : Queue → ℕ
settled_count queue = if is_nil queue.lines then queue.dropped else 0

abbrev pub settled : Queue → Queue
settled queue =
    if is_nil queue.lines
    then record { lines = queue.lines; begun = queue.begun; dropped = 0 }
    else queue

-- the first line is begun anew
abbrev pub begun_again : Queue → Queue
begun_again queue = queue_of queue.lines 0 queue.dropped

-- lines that are not written, and those whose count is not reported
abbrev pub lines_lost : Queue → ℕ
lines_lost queue = queue.dropped + length queue.lines

-- all lines that are not written are dropped
abbrev pub given_up : Queue → Queue
given_up queue = queue_of [] 0 (lines_lost queue)

-- the octets of the next write: those of the first line that are not written, at most MAX_WRITE
abbrev pub next_of : List (List ℕ) → ℕ → List ℕ
next_of [] begun = []
next_of (line ∷ lines) begun = take MAX_WRITE (drop begun line)

abbrev pub next_octets : Queue → List ℕ
next_octets queue = next_of queue.lines queue.begun

-- the queue after `count` octets of the next write were taken
abbrev pub written_of : List (List ℕ) → ℕ → ℕ → ℕ → Queue
written_of [] begun dropped count = record { lines = []; begun = begun; dropped = dropped }
written_of (line ∷ lines) begun dropped count =
    if nat_lt (begun + count) (length line)
    then record { lines = line ∷ lines; begun = begun + count; dropped = dropped }
    else record { lines = lines; begun = 0; dropped = dropped }

abbrev pub written : Queue → ℕ → Queue
written queue count =
    written_of queue.lines queue.begun queue.dropped (min count (length (next_octets queue)))

-- a code, by which proofs distinguish values
abbrev pub queue_code : Coded Queue
queue_code = code_by (List (List ℕ) × (ℕ × ℕ))
    (coded× (coded_list (coded_list coded_ℕ)) (coded× coded_ℕ coded_ℕ))
    (λ q. (q.lines, (q.begun, q.dropped)))
    (λ p. record { lines = p.0; begun = p.1.0; dropped = p.1.1 }) (λ _. refl)
