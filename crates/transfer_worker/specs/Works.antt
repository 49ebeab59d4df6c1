-- The operations of a worker.
use Rattle.std.specs.Prelude.{◌≡◌, ◌≢◌, ◌⊎◌, ℕ, ◌+◌, ◌++◌, Bool, true, false, List, [], ◌∷◌, length, map, Option, Some, None, All}
use Rattle.std.specs.List.{flat_map, sum_by}
use Rattle.line_rates.specs.declared.ask.Ask.{Ask}
use Rattle.data_pump.specs.declared.pumped.Pumped.{Pumped}
use Rattle.desk_rule.specs.declared.view.SeatState.TheVariants.{Worker}
use Rattle.transfer_worker.specs.declared.order.Hand.{Hand}
use Rattle.transfer_worker.specs.declared.end.JobEnd.{JobEnd}
use Rattle.transfer_worker.specs.declared.end.JobEnd.TheVariants.{ReadFault, Memory, Stopped}
use Rattle.transfer_worker.specs.declared.end.LoopEnd.{LoopEnd}
use Rattle.transfer_worker.specs.declared.end.LoopEnd.TheVariants as work
use Rattle.transfer_worker.specs.declared.gate.Go.TheVariants.{Stop}
use Rattle.transfer_worker.specs.declared.job.LaneJob.{LaneJob}
use Rattle.transfer_worker.specs.Ends.{Reports}
use Rattle.transfer_worker.specs.Passes.{PassCall, calls_until, leaves}
use Rattle.transfer_worker.specs.Transfers.{Flow, Known, way_in, user_of, session_of, way_of, Opens, Pumps}
use Rattle.transfer_worker.specs.Runs.{WorkerView, counted, Turn, Halt, asks_at, looks_at, calls_at, calls_of, moves_of, looks_of, Adds, Bears, AreTurns, EndsAt}

-- The worker waited for a grant, which did not come before the gate said Stop.
pub record WaitsInVain (session moved : ℕ) (v w : WorkerView) : Type 0 where
  pub between : List ℕ
  pub laters : ℕ
  pub state_is : w.lane.state ≡ v.lane.state
  pub sittings_are : w.lane.sittings ≡ v.lane.sittings
  pub adds : Adds [] [] (length between + 1) []
      (leaves session moved between ++ calls_until session moved Stop laters) v w

-- The worker waited for a grant, took it and pumped it.
pub record Takes {R K C : Type 0} (k : Known R K C) (session moved : ℕ) (flow next : Flow R K C)
    (pumped : Pumped) (v w : WorkerView) : Type 0 where
  pub between : List ℕ
  pub octets : ℕ
  pub state_is : w.lane.state ≡ Worker
  pub sittings_are : w.lane.sittings ≡ v.lane.sittings
  pub adds : Adds [] (octets ∷ []) (length between) (pumped.moved ∷ [])
      (leaves session moved between) v w
  pub pumps : Pumps k octets flow next pumped

-- the result says whether the end is Stopped
abbrev pub IsStop : Bool → JobEnd → Type 0
IsStop true end = end ≡ Stopped
IsStop false end = end ≢ Stopped

-- A transfer was run in one sitting, and its end was reported once.
pub record RunsTransfer {R K C : Type 0} (k : Known R K C) (may_want : ℕ → Type 0)
    (user session : ℕ) (flow : Flow R K C) (stop : Bool) (v w : WorkerView) : Type 0 where
  pub end : JobEnd
  pub turns : List Turn
  pub halt : Option Halt
  pub final : Flow R K C
  pub stops : IsStop stop end
  pub are_turns : AreTurns k may_want flow turns final
  pub ends : EndsAt may_want final halt end
  pub bear : All (Bears user session (way_in flow)) (map (λ t. t.ask) turns ++ asks_at halt)
  pub sittings_are : w.lane.sittings ≡ v.lane.sittings ++ length v.lane.asks ∷ []
  pub adds : Adds (map (λ t. t.ask) turns ++ asks_at halt) (map (λ t. t.octets) turns)
      (looks_of turns + looks_at halt) (moves_of turns)
      (calls_of session 0 turns ++ calls_at session (counted 0 (moves_of turns)) halt) v w
  pub reports : Reports v.heard w.heard session end

-- A job popped by a worker: the transfer as it was opened, if it was; its turns; the point at which
-- it was stopped, if it was; and its end.
pub record Work (R K C : Type 0) : Type 0 where
  pub job : LaneJob R K C
  pub opening : Option (Flow R K C)
  pub turns : List Turn
  pub halt : Option Halt
  pub end : JobEnd

module _ {R K C : Type 0} where
  -- the asks, looks and amounts of its turns
  abbrev pub asks_in : Work R K C → List Ask
  asks_in w = map (λ t. t.ask) w.turns ++ asks_at w.halt

  abbrev pub taken_in : Work R K C → List ℕ
  taken_in w = map (λ t. t.octets) w.turns

  abbrev pub looks_in : Work R K C → ℕ
  looks_in w = looks_of w.turns + looks_at w.halt

  abbrev pub moves_in : Work R K C → List ℕ
  moves_in w = moves_of w.turns

  -- the calls of its gate: each with its session and the octets that it had moved so far
  abbrev pub passes_in : Work R K C → List PassCall
  passes_in w =
      calls_of (session_of w.job) 0 w.turns
      ++ calls_at (session_of w.job) (counted 0 (moves_of w.turns)) w.halt

  -- A job that was not opened has no turns, and its end is that of the opening. Any other runs from
  -- its opening through its turns to its end.
  abbrev pub Runs : Known R K C → (ℕ → Type 0) → Option (Flow R K C) → Work R K C → Type 0
  Runs k may_want None w =
      (w.turns ≡ []) × (w.halt ≡ None) × ((w.end ≡ ReadFault) ⊎ (w.end ≡ Memory))
  Runs k may_want (Some flow) w =
      Opens k w.job flow
      × ((final : Flow R K C) × AreTurns k may_want flow w.turns final
      × EndsAt may_want final w.halt w.end)

  -- its asks have the user, session and way of the job
  pub record IsWork (k : Known R K C) (may_want : ℕ → Type 0) (w : Work R K C) : Type 0 where
    pub bear : All (Bears (user_of w.job) (session_of w.job) (way_of w.job)) (asks_in w)
    pub runs : Runs k may_want w.opening w

  -- the sittings of a job: one if it was opened, with the number of asks that the seat had made
  -- before
  abbrev pub sitting_of : ℕ → Option (Flow R K C) → List ℕ
  sitting_of n None = []
  sitting_of n (Some flow) = n ∷ []

  -- for each sitting, the number of asks that the seat had made before
  abbrev pub starts : ℕ → List (Work R K C) → List ℕ
  starts n [] = []
  starts n (w ∷ works) = sitting_of n w.opening ++ starts (n + length (asks_in w)) works

  -- the report of the job to a gate
  abbrev pub reported_of : Work R K C → ℕ × JobEnd
  reported_of w = (session_of w.job, w.end)

  pub record Does (k : Known R K C) (may_want : ℕ → Type 0) (job : Work R K C)
      (v w : WorkerView) : Type 0 where
    pub is_work : IsWork k may_want job
    pub sittings_are : w.lane.sittings
        ≡ v.lane.sittings ++ sitting_of (length v.lane.asks) job.opening
    pub adds : Adds (asks_in job) (taken_in job) (looks_in job) (moves_in job) (passes_in job) v w
    pub reports : Reports v.heard w.heard (session_of job.job) job.end

  -- a job was run
  abbrev pub RunsJob : Known R K C → (ℕ → Type 0) → LaneJob R K C → Bool → WorkerView
      → WorkerView → Type 0
  RunsJob k may_want job stop v w =
      (done : Work R K C) × (done.job ≡ job) × IsStop stop done.end × Does k may_want done v w

  abbrev pub NotStopped : Work R K C → Type 0
  NotStopped w = w.end ≢ Stopped

  -- only the last job was stopped, and only if the worker was
  abbrev pub EndsSo : LoopEnd → List (Work R K C) → Type 0
  EndsSo work.Idle works = All NotStopped works
  EndsSo work.Stopped works =
      (before : List (Work R K C)) × (last : Work R K C) × (works ≡ before ++ last ∷ [])
      × All NotStopped before × (last.end ≡ Stopped)

  -- The operations of a worker, job by job: it popped these, in this order; its sittings are those
  -- of the jobs that were opened, each with the asks of its job; it took and moved these amounts;
  -- and its gate was called in this way, and told of each job once, in order.
  pub record Did (k : Known R K C) (may_want : ℕ → Type 0) (works : List (Work R K C))
      (h h' : Hand (LaneJob R K C)) (v w : WorkerView) : Type 0 where
    pub each : All (IsWork k may_want) works
    pub popped : h'.popped ≡ h.popped ++ map (λ job. job.job) works
    pub pushed : h'.pushed ≡ h.pushed
    pub sittings_are : w.lane.sittings ≡ v.lane.sittings ++ starts (length v.lane.asks) works
    pub adds : Adds (flat_map asks_in works) (flat_map taken_in works) (sum_by looks_in works)
        (flat_map moves_in works) (flat_map passes_in works) v w
    pub reports : (before : List (ℕ × JobEnd)) → v.heard ≡ Some before
        → w.heard ≡ Some (before ++ map reported_of works)

  abbrev pub Works : Known R K C → (ℕ → Type 0) → LoopEnd → Hand (LaneJob R K C)
      → Hand (LaneJob R K C) → WorkerView → WorkerView → Type 0
  Works k may_want end h h' v w =
      (works : List (Work R K C)) × EndsSo end works × Did k may_want works h h' v w
