-- Runs: the effect of a list of events, with the octets that they move and the limits that apply.
-- The rates may change: each tick has rates of its own, and a decision is under those of its tick.
use Rattle.std.specs.Prelude.{◌≡◌, ◌≢◌, ℕ, ◌+◌, ◌/◌, List, [], ◌∷◌, ◌++◌, Option, Some, None, Bool, true, false, nat_eq, if◌then◌else◌, map, reverse, take, Result, Ok, Err, MatchResult, ⊤}
use Rattle.line_rates.specs.declared.ask.Ask.{Ask}
use Rattle.line_rates.specs.declared.ask.Name.{Name}
use Rattle.line_rates.specs.Rates.{Rates, rate_of}
use Rattle.line_rates.specs.Ticks.{share_of}
use Rattle.line_rates.specs.TickTree.{ask_in, bears_in, is_name}
use Rattle.world_terms.specs.declared.event.Event.{Event}
use Rattle.world_terms.specs.declared.event.Event.TheVariants as event
use Rattle.world_terms.specs.declared.event.EventAnswer.{EventAnswer}
use Rattle.world_terms.specs.declared.event.EventAnswer.TheVariants as answer
use Rattle.world_terms.specs.declared.fault.StepFault.{StepFault}
use Rattle.world_terms.specs.Decisions.{in_round}
use Rattle.world_terms.specs.Lanes.{World}
use Rattle.world_terms.specs.Steps.{Step, lane_of}

-- an event, with the world before it and its reply
pub record TraceEntry : Type 0 where
  pub before : World
  pub event : Event
  pub reply : Result EventAnswer StepFault

-- the tick of a decision; 0 for any other event, to which no rate applies
abbrev pub tick_of : Event → ℕ
tick_of (event.Decide m) = m / 100
tick_of e = 0

-- these events, the newest first, lead from world `start` to world `end`, under these rates of each
-- tick
abbrev pub Runs : (ℕ → Rates) → World → List TraceEntry → World → Type 0
Runs rates start [] end = end ≡ start
Runs rates start (x ∷ past) end =
    Runs rates start past x.before × Step (rates (tick_of x.event)) x.before x.event x.reply end

abbrev pub event_of : TraceEntry → Event
event_of x = x.event

abbrev pub reply_of : TraceEntry → Result EventAnswer StepFault
reply_of x = x.reply

-- a run of these events, the oldest first, with these replies
pub record IsRun (rates : ℕ → Rates) (start : World) (events : List Event)
    (replies : List (Result EventAnswer StepFault)) (end : World) : Type 0 where
  pub past : List TraceEntry
  pub runs : Runs rates start past end
  pub events_are : reverse (map event_of past) ≡ events
  pub replies_are : reverse (map reply_of past) ≡ replies

-- a run of some first part of these events
pub record IsRunOfSome (rates : ℕ → Rates) (start : World) (events : List Event)
    (end : World) : Type 0 where
  pub done : ℕ
  pub replies : List (Result EventAnswer StepFault)
  pub run : IsRun rates start (take done events) replies end

-- the value for an event that is not refused; otherwise `none`
abbrev pub if_ok : {X : Type 0} → Result EventAnswer StepFault → X → (EventAnswer → X) → X
if_ok (Ok a) none f = f a
if_ok (Err fault) none f = none

-- ---- the ask that a grant answers

-- the ask that an event makes on a lane
abbrev pub ask_by : ℕ → Event → Option Ask
ask_by i (event.Asked j a) = if nat_eq j i then Some a else None
ask_by i e = None

abbrev pub or_else : Option Ask → Option Ask → Option Ask
or_else None older = older
or_else (Some a) older = Some a

-- the last ask of a lane
abbrev pub last_ask : ℕ → List TraceEntry → Option Ask
last_ask i [] = None
last_ask i (x ∷ past) = or_else (if_ok x.reply None (λ a. ask_by i x.event)) (last_ask i past)

-- an event with this answer exchanges the word of its lane
abbrev pub is_exchange : Event → EventAnswer → Bool
is_exchange (event.Decide m) a = false
is_exchange (event.Moved i n) a = false
is_exchange e answer.Missed = false
is_exchange e a = true

abbrev pub on_lane : ℕ → Event → EventAnswer → List (Event × EventAnswer)
on_lane i e a = if is_exchange e a then (if nat_eq (lane_of e) i then (e, a) ∷ [] else []) else []

-- the exchanges on the word of a lane, the newest first
abbrev pub exchanges : ℕ → List TraceEntry → List (Event × EventAnswer)
exchanges i [] = []
exchanges i (x ∷ past) = if_ok x.reply [] (on_lane i x.event) ++ exchanges i past

-- ---- the decision that a grant is of

-- the tick of the last decision; 0 if there was none
abbrev pub tick_or : Option ℕ → ℕ
tick_or None = 0
tick_or (Some tick) = tick

-- the tick of the grant that was posted last on lane i, after an event; that of a grant is the tick
-- of the last decision before its Post
abbrev pub posted_tick : ℕ → Event → World → ℕ → ℕ
posted_tick i (event.Post j) w older = if nat_eq j i then tick_or w.last_tick else older
posted_tick i e w older = older

-- the tick of the decision of the grant that was posted last on a lane
abbrev pub grant_tick : ℕ → List TraceEntry → ℕ
grant_tick i [] = 0
grant_tick i (x ∷ past) =
    if_ok x.reply (grant_tick i past) (λ a. posted_tick i x.event x.before (grant_tick i past))

-- ---- octets moved under a name, and the limits of the name

-- the octets that an event moves of a grant whose ask, the last of its lane, counts under the name
-- by the rates of the grant's tick
abbrev pub moved_by : (ℕ → Rates) → Name → Event → List TraceEntry → ℕ
moved_by rates n (event.Moved i octets) past =
    if bears_in (rates (grant_tick i past)) n (last_ask i past) then octets else 0
moved_by rates n e past = 0

abbrev pub moved_under : (ℕ → Rates) → Name → List TraceEntry → ℕ
moved_under rates n [] = 0
moved_under rates n (x ∷ past) =
    if_ok x.reply 0 (λ a. moved_by rates n x.event past) + moved_under rates n past

-- the octets that an event moves
abbrev pub octets_by : Event → ℕ
octets_by (event.Moved i octets) = octets
octets_by e = 0

-- all octets moved
abbrev pub moved_in_all : List TraceEntry → ℕ
moved_in_all [] = 0
moved_in_all (x ∷ past) = if_ok x.reply 0 (λ a. octets_by x.event) + moved_in_all past

-- the tree of a decision in this world has a branch for the name
abbrev pub has_branch : Rates → Name → World → Bool
has_branch rates n w = is_name rates (map ask_in (in_round w.lanes)) n

-- the name's limit, if the event is a decision whose tree has its branch
abbrev pub limit_by : Rates → Name → World → Event → EventAnswer → ℕ
limit_by rates n w (event.Decide m) (answer.Decided tick total) =
    if has_branch rates n w then share_of (rate_of rates n) tick else 0
limit_by rates n w e a = 0

-- the sum of a name's limits over the decisions whose trees have its branch
abbrev pub limits_under : (ℕ → Rates) → Name → List TraceEntry → ℕ
limits_under rates n [] = 0
limits_under rates n (x ∷ past) =
    if_ok x.reply 0 (limit_by (rates (tick_of x.event)) n x.before x.event)
    + limits_under rates n past

-- if the event is a decision that is not refused, these rates have one above 0 for the name
abbrev pub IsRatedBy : Rates → Name → Event → EventAnswer → Type 0
IsRatedBy rates n (event.Decide m) (answer.Decided tick total) = rate_of rates n ≢ 0
IsRatedBy rates n e a = ⊤

-- in each decision the name has a rate above 0
abbrev pub IsRated : (ℕ → Rates) → Name → List TraceEntry → Type 0
IsRated rates n [] = ⊤
IsRated rates n (x ∷ past) =
    MatchResult x.reply (IsRatedBy (rates (tick_of x.event)) n x.event) (λ _. ⊤)
    × IsRated rates n past
