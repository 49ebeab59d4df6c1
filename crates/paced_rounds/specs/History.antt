-- The history of paced rounds.
use Rattle.std.specs.Prelude.{ℕ, ◌+◌, ◌≤◌, List, [], ◌∷◌, ◌++◌, map, sum_by, Result, Ok, Err}
use Rattle.line_rates.specs.declared.ask.Ask.{Ask}
use Rattle.line_rates.specs.Granted.{Granted, granted_octets}
use Rattle.lane_desk.specs.declared.record.RoundRecord.{RoundRecord}
use Rattle.lane_desk.specs.declared.record.RoundFault.{RoundFault}
use Rattle.proof_log.specs.declared.log.ProofLog.{ProofLog}
use Rattle.round_pace.specs.Earned.{tick_of}
use Rattle.round_pace.specs.Changed.{idle}
use Rattle.round_pace.specs.Guaranteed.{LeadGuaranteed}
use Rattle.round_pace.specs.Histories.{Held, rates_of}
use Rattle.round_pace.specs.Paced.{Paced}
use Rattle.round_pace.specs.Stretches.{Stretch, Lead}

-- an ask with its grant
abbrev pub granted : Ask → ℕ → Granted
granted ask octets = record { ask = ask; octets = octets }

-- each ask with its grant
abbrev pub leaves : List Ask → List ℕ → List Granted
leaves [] ns = []
leaves (x ∷ xs) [] = []
leaves (x ∷ xs) (n ∷ ns) = granted x n ∷ leaves xs ns

-- the asks that a round answered, with their grants; a refused round grants nothing
abbrev pub granted_by : {A : Type 0} → Result (RoundRecord A) RoundFault → List Granted
granted_by (Ok r) = leaves r.asks.items r.sealed.grants
granted_by (Err f) = []

-- a round by its moment and its result
abbrev pub round_at : {A : Type 0} → ℕ → Result (RoundRecord A) RoundFault → Held
round_at now out = record { now = now; leaves = granted_by out }

-- the octets that a round granted
abbrev pub octets_of : Held → ℕ
octets_of h = sum_by granted_octets h.leaves

-- a round in the log: its moment, and each ask with the grant that was subtracted for it
abbrev pub Entry : Type 0
Entry = ℕ × ProofLog Ask ℕ

abbrev pub granted_in : Ask × ℕ → Granted
granted_in x = granted x.0 x.1

abbrev pub held_in : Entry → Held
held_in x = record { now = x.0; leaves = map granted_in x.1.items }

-- the rounds of the log
abbrev pub history : List Entry → List Held
history items = map held_in items

-- a stretch that has ended, in the log: the pace that its rounds left, and its rounds
abbrev pub Ended : Type 0
Ended = Paced × ProofLog ℕ (ProofLog Ask ℕ)

-- the stretch of some rounds under the rates of a pace
abbrev pub stretch_under : Paced → List Held → Stretch
stretch_under p hs = record { rates = rates_of p; rounds = hs }

abbrev pub stretch_in : Ended → Stretch
stretch_in x = stretch_under x.0 (history x.1.items)

-- the stretches that have ended
abbrev pub ended_in : List Ended → List Stretch
ended_in ended = map stretch_in ended

-- all stretches: those that have ended, and the one of the rounds since
abbrev pub stretches : List Ended → Paced → List Entry → List Stretch
stretches ended p items = ended_in ended ++ stretch_under p (history items) ∷ []

-- the octets that the rounds of a stretch granted
abbrev pub octets_in : Stretch → ℕ
octets_in s = sum_by octets_of s.rounds

-- The pace is what the stretches left of one without rates.
pub record IsRun (p : Paced) (latest : ℕ) (ss : List Stretch) : Type 0 where
  pub begun : ℕ
  pub lead : Lead (idle begun) ss p
  pub near : p.begun ≤ tick_of latest + 1

-- Each round of the stretches was offered what guarantees within the rates in force in it need.
abbrev pub WereGuaranteed : Paced → List Stretch → Type 0
WereGuaranteed p ss = ∥ ((begun : ℕ) × LeadGuaranteed (idle begun) ss p) ∥₁
