-- The rule of a ticket's table, and the result of each step. The word is 0 if no session sits
-- there, 1 if one does, 2 if its job waits, 3 if a lane runs it, 4 if that lane is to stop, and 5
-- if the end is reported.
use Rattle.std.specs.Prelude.{◌≡◌, ℕ, ◌+◌, ◌<◌, Bool, true, false, List, [], ◌∷◌, length, slice_index}
use mathlib.Core.Option.{Option, none, some}
use lib.ListN.{get_elem?}
use Rattle.atomic_table.specs.Table.{State, Me, Step, rest}
use Rattle.transfer_ticket.specs.declared.view.TicketSlot.{TicketSlot}
use Rattle.transfer_ticket.specs.declared.view.TicketSlot.TheVariants.{Blank, WithJob, WithEnd}
use Rattle.transfer_ticket.specs.declared.view.TicketView.{TicketView}
use Rattle.transfer_ticket.specs.declared.view.TicketView.TheVariants.{Away, Missed, Idle, Busy, Runs}

-- The phase of a ticket: the seat of its session, the seat of the lane that runs its job, the job,
-- whether the lane was asked to stop, and whether it saw that before it reported the end.
pub data Phase (J E : Type 0) : Type 0 where
  free : Phase J E
  idle : ℕ → Phase J E
  waiting : ℕ → J → Phase J E
  running : ℕ → ℕ → J → Bool → Phase J E
  ended : ℕ → J → Bool → Bool → E → Phase J E

abbrev pub running_code : Bool → ℕ
running_code false = 3
running_code true = 4

module _ {J : Type 0} where
  -- the session, with or without a job; with one; a lane that runs one
  abbrev pub is_owner : TicketView J → Bool
  is_owner Away = false
  is_owner Missed = false
  is_owner Idle = true
  is_owner (Busy j asked begun n) = true
  is_owner (Runs j seen n) = false

  abbrev pub is_busy : TicketView J → Bool
  is_busy Away = false
  is_busy Missed = false
  is_busy Idle = false
  is_busy (Busy j asked begun n) = true
  is_busy (Runs j seen n) = false

  abbrev pub is_runner : TicketView J → Bool
  is_runner Away = false
  is_runner Missed = false
  is_runner Idle = false
  is_runner (Busy j asked begun n) = false
  is_runner (Runs j seen n) = true

  -- it knows that a lane has begun the job
  abbrev pub is_begun : TicketView J → Bool
  is_begun Away = false
  is_begun Missed = false
  is_begun Idle = false
  is_begun (Busy j asked begun n) = begun
  is_begun (Runs j seen n) = false

  -- a try that found nothing; one that found that a lane has begun the job; and an ask to stop
  abbrev pub tried : TicketView J → TicketView J
  tried Away = Away
  tried Missed = Missed
  tried Idle = Idle
  tried (Busy j asked begun n) = Busy j asked begun (n + 1)
  tried (Runs j seen n) = Runs j seen n

  abbrev pub begun : TicketView J → TicketView J
  begun Away = Away
  begun Missed = Missed
  begun Idle = Idle
  begun (Busy j asked before n) = Busy j asked true (n + 1)
  begun (Runs j seen n) = Runs j seen n

  abbrev pub asking : TicketView J → TicketView J
  asking Away = Away
  asking Missed = Missed
  asking Idle = Idle
  asking (Busy j asked begun n) = Busy j true begun (n + 1)
  asking (Runs j seen n) = Runs j seen n

  -- a lane that has seen that it is to stop does not forget it
  abbrev pub looked : Bool → TicketView J → TicketView J
  looked stop Away = Away
  looked stop Missed = Missed
  looked stop Idle = Idle
  looked stop (Busy j asked begun n) = Busy j asked begun n
  looked true (Runs j seen n) = Runs j true (n + 1)
  looked false (Runs j seen n) = Runs j seen (n + 1)

module _ {J E : Type 0} where
  abbrev pub code : Phase J E → ℕ
  code free = 0
  code (idle o) = 1
  code (waiting o j) = 2
  code (running o r j asked) = running_code asked
  code (ended o j asked seen e) = 5

  -- the content of the slot; none if a seat has it
  abbrev pub home_of : Phase J E → Option (TicketSlot J E)
  home_of free = some Blank
  home_of (idle o) = none
  home_of (waiting o j) = some (WithJob j)
  home_of (running o r j asked) = none
  home_of (ended o j asked seen e) = some (WithEnd e)

  -- the session's seat, and what it knows
  abbrev pub IsSession : ℕ → TicketView J → Phase J E → Type 0
  IsSession by v free = ⊥
  IsSession by v (idle o) = (o ≡ by) × (v ≡ Idle)
  IsSession by v (waiting o j) = (n : ℕ) × (o ≡ by) × (v ≡ Busy j false false n)
  IsSession by v (running o r j asked) =
      (begun : Bool) × (n : ℕ) × (o ≡ by) × (v ≡ Busy j asked begun n)
  IsSession by v (ended o j asked seen e) =
      (begun : Bool) × (n : ℕ) × (o ≡ by) × (v ≡ Busy j asked begun n)

  -- the seat of the lane that runs this job; it saw only what the session asked
  abbrev pub IsLane : ℕ → J → Bool → Phase J E → Type 0
  IsLane by i seen free = ⊥
  IsLane by i seen (idle o) = ⊥
  IsLane by i seen (waiting o j) = ⊥
  IsLane by i seen (running o r j asked) = (r ≡ by) × (j ≡ i) × (seen ≡ true → asked ≡ true)
  IsLane by i seen (ended o j asked looked e) = ⊥

  -- the claim that a view makes
  abbrev pub Knows : Phase J E → ℕ → TicketView J → Type 0
  Knows ph by Away = Unit {0}
  Knows ph by Missed = Unit {0}
  Knows ph by Idle = IsSession by Idle ph
  Knows ph by (Busy j asked begun n) = IsSession by (Busy j asked begun n) ph
  Knows ph by (Runs j seen n) = IsLane by j seen ph

  -- the slot that a seat has, blank
  abbrev pub held_by : TicketView J → List (ℕ × TicketSlot J E)
  held_by Away = []
  held_by Missed = []
  held_by Idle = (0, Blank) ∷ []
  held_by (Busy j asked begun n) = []
  held_by (Runs j seen n) = (0, Blank) ∷ []

  module _ (permits : J → Bool → E → Type 0) where
    -- an end that waits is permitted for the job; the lane saw only what was asked
    abbrev pub Bears : Phase J E → Type 0
    Bears free = Unit {0}
    Bears (idle o) = Unit {0}
    Bears (waiting o j) = Unit {0}
    Bears (running o r j asked) = Unit {0}
    Bears (ended o j asked seen e) = (seen ≡ true → asked ≡ true) × permits j seen e

    pub record Kept (s : State (TicketSlot J E) (TicketView J)) : Type 0 where
      pub phase : Phase J E
      pub wide : 0 < length s.words
      pub full : 0 < length s.homes
      pub word_is : slice_index s.words 0 ≡ code phase
      pub home_is : get_elem? s.homes 0 ≡ some (home_of phase)
      pub bears : Bears phase
      pub each_view : (by : ℕ) (v : TicketView J) → get_elem? s.views by ≡ some v → Knows phase by v

    -- the end is permitted for the job that was put, and the lane saw only what was asked
    abbrev pub IsPermitted : TicketView J → E → Type 0
    IsPermitted Away e = ⊥
    IsPermitted Missed e = ⊥
    IsPermitted Idle e = ⊥
    IsPermitted (Busy j asked begun n) e =
        (seen : Bool) × (seen ≡ true → asked ≡ true) × permits j seen e
    IsPermitted (Runs j seen n) e = ⊥

    abbrev pub MayReport : TicketView J → E → Type 0
    MayReport Away e = ⊥
    MayReport Missed e = ⊥
    MayReport Idle e = ⊥
    MayReport (Busy j asked begun n) e = ⊥
    MayReport (Runs j seen n) e = permits j seen e

    abbrev pub takes_end : Step (TicketSlot J E) → Me (TicketSlot J E) (TicketView J) → ℕ
        → Me (TicketSlot J E) (TicketView J) → Type 0
    takes_end st m r m' =
        (r ≡ 5 → (e : E) × IsPermitted m.0 e × (m' ≡ (Idle, (0, WithEnd e) ∷ m.1)))
        × (¬ (r ≡ 5) → m' ≡ (tried m.0, m.1))

  abbrev pub enters : Step (TicketSlot J E) → Me (TicketSlot J E) (TicketView J) → ℕ
      → Me (TicketSlot J E) (TicketView J) → Type 0
  enters st m r m' = m' ≡ (Away, [])

  abbrev pub sits : Step (TicketSlot J E) → Me (TicketSlot J E) (TicketView J) → ℕ
      → Me (TicketSlot J E) (TicketView J) → Type 0
  sits st m r m' =
      (r ≡ 0 → m' ≡ (Idle, (0, Blank) ∷ m.1)) × (¬ (r ≡ 0) → m'.0 ≡ Missed)

  abbrev pub leaves : Step (TicketSlot J E) → Me (TicketSlot J E) (TicketView J) → ℕ
      → Me (TicketSlot J E) (TicketView J) → Type 0
  leaves st m r m' = m' ≡ (Away, rest m.1)

  abbrev pub puts : Step (TicketSlot J E) → Me (TicketSlot J E) (TicketView J) → ℕ
      → Me (TicketSlot J E) (TicketView J) → Type 0
  puts st m r m' = (j : J) → m.1 ≡ (0, WithJob j) ∷ rest m.1 → m' ≡ (Busy j false false 0, rest m.1)

  abbrev pub cancels : Step (TicketSlot J E) → Me (TicketSlot J E) (TicketView J) → ℕ
      → Me (TicketSlot J E) (TicketView J) → Type 0
  cancels st m r m' =
      (r ≡ 2 → (j : J) × (n : ℕ) × (m.0 ≡ Busy j false false n)
      × (m' ≡ (Idle, (0, WithJob j) ∷ m.1)))
      × (¬ (r ≡ 2) → m' ≡ (begun m.0, m.1))

  abbrev pub stops : Step (TicketSlot J E) → Me (TicketSlot J E) (TicketView J) → ℕ
      → Me (TicketSlot J E) (TicketView J) → Type 0
  stops st m r m' =
      (r ≡ 5 → m' ≡ (tried m.0, m.1)) × (¬ (r ≡ 5) → m' ≡ (asking m.0, m.1))

  abbrev pub takes_job : Step (TicketSlot J E) → Me (TicketSlot J E) (TicketView J) → ℕ
      → Me (TicketSlot J E) (TicketView J) → Type 0
  takes_job st m r m' =
      (r ≡ 2 → (j : J) × (m' ≡ (Runs j false 0, (0, WithJob j) ∷ m.1)))
      × (¬ (r ≡ 2) → m'.0 ≡ Missed)

  abbrev pub looks : Step (TicketSlot J E) → Me (TicketSlot J E) (TicketView J) → ℕ
      → Me (TicketSlot J E) (TicketView J) → Type 0
  looks st m r m' =
      (r ≡ 4 → m' ≡ (looked true m.0, m.1)) × (¬ (r ≡ 4) → m' ≡ (looked false m.0, m.1))

  abbrev pub reports : Step (TicketSlot J E) → Me (TicketSlot J E) (TicketView J) → ℕ
      → Me (TicketSlot J E) (TicketView J) → Type 0
  reports st m r m' = m' ≡ (Away, rest m.1)
