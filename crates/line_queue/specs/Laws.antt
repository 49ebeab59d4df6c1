-- Each line offered is written whole and in order, or counted at its place.
use Rattle.std.specs.Prelude.{◌≡◌, ℕ, ◌≤◌, List, [], ◌∷◌, ◌++◌, length, take, drop}
use Rattle.line_queue.specs.Queues.{Queue, empty, offered, reported, written, next_octets, count_text}

-- An event of a queue: a line is offered, the count of dropped lines is reported under a head, or a
-- number of octets of the next write is taken.
pub data Deed : Type 0 where
  Offered : List ℕ → Deed
  Reported : List ℕ → Deed
  Written : ℕ → Deed

abbrev pub after : Queue → Deed → Queue
after queue (Offered line) = offered queue line
after queue (Reported head) = reported queue head
after queue (Written count) = written queue count

abbrev pub after_all : Queue → List Deed → Queue
after_all queue [] = queue
after_all queue (deed ∷ deeds) = after_all (after queue deed) deeds

-- the octets that one event writes
abbrev pub octets_out : Queue → Deed → List ℕ
octets_out queue (Offered line) = []
octets_out queue (Reported head) = []
octets_out queue (Written count) = take count (next_octets queue)

-- the octets that all events write
abbrev pub all_out : Queue → List Deed → List ℕ
all_out queue [] = []
all_out queue (deed ∷ deeds) = octets_out queue deed ++ all_out (after queue deed) deeds

abbrev pub offers_of : List Deed → List (List ℕ)
offers_of [] = []
offers_of (Offered line ∷ deeds) = line ∷ offers_of deeds
offers_of (Reported head ∷ deeds) = offers_of deeds
offers_of (Written count ∷ deeds) = offers_of deeds

-- the text of lines
abbrev pub joined : List (List ℕ) → List ℕ
joined [] = []
joined (line ∷ lines) = line ++ joined lines

-- the octets of a queue that are not written yet
abbrev pub rest : Queue → List ℕ
rest queue = drop queue.begun (joined queue.lines)

-- an entry of what is written: a line that was offered, or a count under a head
pub data Entry : Type 0 where
  Line : List ℕ → Entry
  Count : List ℕ → ℕ → Entry

abbrev pub entry_text : Entry → List ℕ
entry_text (Line line) = line
entry_text (Count head count) = count_text head count

abbrev pub texts : List Entry → List ℕ
texts [] = []
texts (entry ∷ entries) = entry_text entry ++ texts entries

-- The entries have the lines in their order; a count is at the place of as many lines that were
-- dropped, and `dropped` is the number of those after the last entry.
abbrev pub Accounts : List (List ℕ) → List Entry → ℕ → Type 0
Accounts lines [] dropped = length lines ≡ dropped
Accounts [] (Line kept ∷ entries) dropped = ⊥
Accounts (line ∷ lines) (Line kept ∷ entries) dropped =
    (kept ≡ line) × Accounts lines entries dropped
Accounts lines (Count head count ∷ entries) dropped =
    (count ≤ length lines) × Accounts (drop count lines) entries dropped

abbrev pub LinesAreAccounted : Type 0
LinesAreAccounted = (deeds : List Deed) → (entries : List Entry)
    × (all_out empty deeds ++ rest (after_all empty deeds) ≡ texts entries)
    × Accounts (offers_of deeds) entries (after_all empty deeds).dropped
