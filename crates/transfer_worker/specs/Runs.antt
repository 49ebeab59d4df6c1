-- Runs of a transfer: turn by turn, between a gate and a lane.
use Rattle.std.specs.Prelude.{◌≡◌, ◌≢◌, ℕ, ◌+◌, ◌++◌, List, [], ◌∷◌, length, map, Option, Some, None}
use Rattle.std.specs.List.{sum_by}
use Rattle.line_rates.specs.declared.ask.Ask.{Ask}
use Rattle.line_rates.specs.declared.ask.Way.{Way}
use Rattle.grant_ledger.specs.Books.{TallyView, capped}
use Rattle.data_pump.specs.declared.pumped.PumpEnd.TheVariants.{More}
use Rattle.data_pump.specs.declared.pumped.Pumped.{Pumped}
use Rattle.desk_rule.specs.declared.view.LaneView.{LaneView}
use Rattle.transfer_worker.specs.declared.end.JobEnd.{JobEnd}
use Rattle.transfer_worker.specs.declared.end.JobEnd.TheVariants.{Stopped}
use Rattle.transfer_worker.specs.declared.gate.Go.TheVariants.{On, Stop}
use Rattle.transfer_worker.specs.Ends.{end_of}
use Rattle.transfer_worker.specs.Passes.{PassCall, Passes, calls_until, leaves}
use Rattle.transfer_worker.specs.Transfers.{Flow, Known, last_in, MayWant, Pumps, ToppedUp}

-- a worker as contracts see it: its lane, its tally, and the records of its gate
pub record WorkerView : Type 0 where
  pub lane : LaneView
  pub tally : TallyView
  pub heard : Option (List (ℕ × JobEnd))
  pub passed : Option (List PassCall)

abbrev pub worker : LaneView → TallyView → Option (List (ℕ × JobEnd)) → Option (List PassCall)
    → WorkerView
worker lane tally heard passed =
    record { lane = lane; tally = tally; heard = heard; passed = passed }

-- a count after these amounts; it saturates at 2^64 - 1
abbrev pub counted : ℕ → List ℕ → ℕ
counted count [] = count
counted count (n ∷ amounts) = counted (capped count n) amounts

-- One turn: permission to ask, the ask, a permission for each take that found nothing, and the
-- grant, which was pumped.
pub record Turn : Type 0 where
  -- number of answers Later before the gate let the worker ask
  pub before : ℕ
  pub ask : Ask
  -- for each take that found nothing, the number of answers Later before the gate let the worker
  -- look again
  pub between : List ℕ
  -- the octets taken
  pub octets : ℕ
  -- the result of the pump
  pub pumped : Pumped

-- The point at which the gate said Stop.
pub data Halt : Type 0 where
  -- before the ask, after that many answers Later
  BeforeAsk : ℕ → Halt
  -- after the ask: the answers Later before it, the ask, those before each further look, and those
  -- before Stop
  AfterAsk : ℕ → Ask → List ℕ → ℕ → Halt

abbrev pub asks_at : Option Halt → List Ask
asks_at None = []
asks_at (Some (BeforeAsk laters)) = []
asks_at (Some (AfterAsk before ask between laters)) = ask ∷ []

abbrev pub looks_at : Option Halt → ℕ
looks_at None = 0
looks_at (Some (BeforeAsk laters)) = 0
looks_at (Some (AfterAsk before ask between laters)) = length between + 1

abbrev pub calls_at : ℕ → ℕ → Option Halt → List PassCall
calls_at session moved None = []
calls_at session moved (Some (BeforeAsk laters)) = calls_until session moved Stop laters
calls_at session moved (Some (AfterAsk before ask between laters)) =
    calls_until session moved On before ++ leaves session moved between
    ++ calls_until session moved Stop laters

-- the calls of the gate in a turn, and in all turns: each with the session and the octets moved so
-- far
abbrev pub calls_in : ℕ → ℕ → Turn → List PassCall
calls_in session moved t = calls_until session moved On t.before ++ leaves session moved t.between

abbrev pub calls_of : ℕ → ℕ → List Turn → List PassCall
calls_of session moved [] = []
calls_of session moved (t ∷ turns) =
    calls_in session moved t ++ calls_of session (capped moved t.pumped.moved) turns

abbrev pub moves_of : List Turn → List ℕ
moves_of turns = map (λ t. t.pumped.moved) turns

abbrev pub looks_of : List Turn → ℕ
looks_of turns = sum_by (λ t. length t.between) turns

-- The further operations of a worker: it made these asks, took these amounts, found nothing this
-- many times, moved these octets, and called its gate in this way. Its sittings are defined
-- elsewhere.
pub record Adds (asks : List Ask) (taken : List ℕ) (looks : ℕ) (moves : List ℕ)
    (calls : List PassCall) (v w : WorkerView) : Type 0 where
  pub asks_are : w.lane.asks ≡ v.lane.asks ++ asks
  pub taken_are : w.lane.taken ≡ v.lane.taken ++ taken
  pub looks_are : w.lane.looks ≡ v.lane.looks + looks
  pub moved_is : w.tally.moved ≡ counted v.tally.moved moves
  pub passes : Passes v.passed w.passed calls

-- the ask has this user, session and way
abbrev pub Bears : ℕ → ℕ → Way → Ask → Type 0
Bears user session way ask = (ask.user ≡ user) × (ask.session ≡ session) × (ask.way ≡ way)

module _ {R K C : Type 0} where
  -- the open ask is for what the transfer may ask for
  abbrev pub WantsAt : (ℕ → Type 0) → Halt → Flow R K C → Type 0
  WantsAt may_want (BeforeAsk laters) flow = Unit {0}
  WantsAt may_want (AfterAsk before ask between laters) flow = MayWant may_want flow ask.want

  -- In a turn, the worker asks for the octets that wait, or for what the gate chooses for an
  -- upload, and those taken are pumped. If there is more, those that wait then are topped up for
  -- the next ask.
  pub record IsTurn (k : Known R K C) (may_want : ℕ → Type 0) (flow : Flow R K C) (t : Turn)
      (next : Flow R K C) : Type 0 where
    pub more : last_in flow ≡ More
    pub want : MayWant may_want flow t.ask.want
    pub pumped : Flow R K C
    pub pumps : Pumps k t.octets flow pumped t.pumped
    pub tops : t.pumped.end ≡ More → ToppedUp k pumped next
    pub ends : t.pumped.end ≢ More → next ≡ pumped

  -- the turns lead from one state of the transfer to the other
  abbrev pub AreTurns : Known R K C → (ℕ → Type 0) → Flow R K C → List Turn → Flow R K C → Type 0
  AreTurns k may_want flow [] end = end ≡ flow
  AreTurns k may_want flow (t ∷ turns) end =
      (next : Flow R K C) × IsTurn k may_want flow t next × AreTurns k may_want next turns end

  -- a transfer ends with its last pump, or is stopped between two pumps
  abbrev pub EndsAt : (ℕ → Type 0) → Flow R K C → Option Halt → JobEnd → Type 0
  EndsAt may_want flow None end = end_of (last_in flow) ≡ Some end
  EndsAt may_want flow (Some halt) end =
      (end ≡ Stopped) × (last_in flow ≡ More) × WantsAt may_want halt flow
