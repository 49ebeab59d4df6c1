-- The events of a round, and their replies.
use Rattle.std.specs.Prelude.{ℕ, zero, suc, if◌then◌else◌, List, [], ◌∷◌, ◌++◌, map, slice_index_or, Option, Some, None, Bool, Result, Ok}
use Rattle.line_rates.specs.declared.ask.Ask.{Ask}
use Rattle.world_terms.specs.declared.event.Event.{Event}
use Rattle.world_terms.specs.declared.event.Event.TheVariants as event
use Rattle.world_terms.specs.declared.event.EventAnswer.{EventAnswer}
use Rattle.world_terms.specs.declared.event.EventAnswer.TheVariants as answer
use Rattle.world_terms.specs.declared.fault.StepFault.{StepFault}

abbrev pub Reply : Type 0
Reply = Result EventAnswer StepFault

-- the given lanes among n lanes, of which the first has number k, in rising order
abbrev pub given_lanes : (ℕ → Bool) → ℕ → ℕ → List ℕ
given_lanes given k zero = []
given_lanes given k (suc n) =
    if given k then k ∷ given_lanes given (suc k) n else given_lanes given (suc k) n

abbrev pub collects : List ℕ → List Event
collects lanes = map (λ i. event.Collect i) lanes

abbrev pub posts : List ℕ → List Event
posts lanes = map (λ i. event.Post i) lanes

-- the answer of a try that found this
abbrev pub try_answer : Option Ask → EventAnswer
try_answer None = answer.Missed
try_answer (Some a) = answer.Got

-- the replies of tries of these lanes, if `found` has what was on each lane
abbrev pub try_replies : List (Option Ask) → List ℕ → List Reply
try_replies found lanes = map (λ i. Ok (try_answer (slice_index_or found i None))) lanes

abbrev pub post_replies : List ℕ → List Reply
post_replies amounts = map (λ n. Ok (answer.Posted n)) amounts

-- a Collect of each lane tried, one Decide, and a Post of each lane answered
abbrev pub round_events : List ℕ → ℕ → List ℕ → List Event
round_events tried moment answered = collects tried ++ event.Decide moment ∷ posts answered

-- the replies: what the tries found, the decision, and the amounts posted
abbrev pub round_replies : List (Option Ask) → List ℕ → Reply → List ℕ → List Reply
round_replies found tried decided amounts =
    try_replies found tried ++ decided ∷ post_replies amounts
