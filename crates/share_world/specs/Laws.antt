-- Laws of every run from a new world.
use Rattle.std.specs.Prelude.{◌≡◌, ℕ, ◌+◌, ◌≤◌, if◌then◌else◌, List, ◌∷◌, ◌++◌, map, slice_get, sum, sum_by, Some, Ok, IsPermutation}
use Rattle.limit_tree.specs.Sharing.{LimitTree}
use Rattle.fair_terms.specs.Fair.{IsFair}
use Rattle.line_rates.specs.declared.ask.Ask.{Ask}
use Rattle.line_rates.specs.declared.ask.Name.{Name}
use Rattle.line_rates.specs.declared.ask.Name.TheVariants.{Server}
use Rattle.line_rates.specs.Granted.{Granted, granted_ask, granted_octets}
use Rattle.line_rates.specs.Names.{floor_of}
use Rattle.line_rates.specs.Rates.{Rates, rate_of}
use Rattle.line_rates.specs.Ticks.{rate_limit}
use Rattle.line_rates.specs.TickTree.{IsTickTree, ask_in, bears_in}
use Rattle.world_terms.specs.declared.event.LaneState.TheVariants as state
use Rattle.world_terms.specs.declared.event.Event.{Event}
use Rattle.world_terms.specs.declared.event.Event.TheVariants as event
use Rattle.world_terms.specs.declared.event.EventAnswer.{EventAnswer}
use Rattle.world_terms.specs.declared.event.EventAnswer.TheVariants as answer
use Rattle.world_terms.specs.Decisions.{AreGiven, decided_grants, decided_of, in_round}
use Rattle.world_terms.specs.Lanes.{Lane, World, amount, new_world}
use Rattle.world_terms.specs.Runs.{TraceEntry, Runs, IsRated, exchanges, last_ask, limits_under, moved_in_all, moved_under}
use Rattle.world_terms.specs.Steps.{Step}
use Rattle.world_terms.specs.Sums.{shares_in}

-- P holds for each lane after every run from a new world
abbrev pub OfEachLane : (Lane → Type 0) → Type 0
OfEachLane P =
    (rates : ℕ → Rates) (k : ℕ) (past : List TraceEntry) (end : World) (i : ℕ) (l : Lane)
    → Runs rates (new_world k) past end → slice_get end.lanes i ≡ Some l → P l

-- for each lane, the amounts taken are those moved, given back and in hand
abbrev pub TakenIsAccountedFor : Type 0
TakenIsAccountedFor =
    OfEachLane (λ l. l.hidden.moved + l.hidden.back + amount l.hidden.hand ≡ sum l.shown.taken)

-- for each lane, the amounts taken are a prefix of those posted
abbrev pub TakenBeginsPosted : Type 0
TakenBeginsPosted = OfEachLane (λ l. (rest : List ℕ) × (l.shown.posted ≡ l.shown.taken ++ rest))

-- the exchange before a grant is taken: the grant was posted for the last ask, which was collected,
-- with no other exchange on the word between, so in one sitting
pub record AnswersLastAsk (past : List TraceEntry) (i n : ℕ) : Type 0 where
  pub ask : Ask
  pub older : List (Event × EventAnswer)
  pub exchanged : exchanges i past
      ≡ (event.Post i, answer.Posted n) ∷ (event.Collect i, answer.Got)
      ∷ (event.Asked i ask, answer.Done) ∷ older
  pub last : last_ask i past ≡ Some ask

-- the last event of this run takes a grant
abbrev pub Takes : (ℕ → Rates) → ℕ → List TraceEntry → World → ℕ → ℕ → World → Type 0
Takes rates k past w i n end =
    Runs rates (new_world k)
    (record { before = w; event = event.Taken i; reply = Ok (answer.Taken n) } ∷ past) end

-- a grant that is taken answers the last ask of the same sitting
abbrev pub TakenAnswersLastAsk : Type 0
TakenAnswersLastAsk =
    (rates : ℕ → Rates) (k : ℕ) (past : List TraceEntry) (w : World) (i n : ℕ) (end : World)
    → Takes rates k past w i n end → AnswersLastAsk past i n

-- the octets issued are the sum of the shares
abbrev pub IssuedIsShares : Type 0
IssuedIsShares =
    (rates : ℕ → Rates) (k : ℕ) (past : List TraceEntry) (end : World)
    → Runs rates (new_world k) past end → end.issued ≡ shares_in end

-- The octets moved under a name that has a rate in each decision are at most the sum of its limits
-- over the decisions whose trees have its branch. The rates may change from tick to tick; an octet
-- counts under the names that the rates of its grant's tick give its ask.
abbrev pub MovedIsWithinLimits : Type 0
MovedIsWithinLimits =
    (rates : ℕ → Rates) (k : ℕ) (past : List TraceEntry) (end : World) (n : Name)
    → Runs rates (new_world k) past end
    → IsRated rates n past → moved_under rates n past ≤ limits_under rates n past

-- if the server has a rate in each decision, all octets moved are at most the sum of its limits
-- over the decisions
abbrev pub MovedInAllIsWithinLimits : Type 0
MovedInAllIsWithinLimits =
    (rates : ℕ → Rates) (k : ℕ) (past : List TraceEntry) (end : World)
    → Runs rates (new_world k) past end → IsRated rates Server past
    → moved_in_all past ≤ limits_under rates Server past

-- P holds for each decision that is not refused, with its tick and total, in any world
abbrev pub OfEachDecision : (Rates → World → ℕ → ℕ → World → Type 0) → Type 0
OfEachDecision P =
    (rates : Rates) (w : World) (moment tick total : ℕ) (w' : World)
    → Step rates w (event.Decide moment) (Ok (answer.Decided tick total)) w'
    → P rates w tick total w'

-- Each lane in Round gets a decided amount, and no other lane does. These amounts, in some order,
-- are fair grants for a tree of the tick, each for the leaf of its lane's ask: best among the
-- sessions, or by users, as the rates say. The leaves are exactly the asks of the lanes in Round,
-- and the amounts add up to this total.
pub record AreBestInRound (rates : Rates) (w : World) (tick total : ℕ) (w' : World) : Type 0 where
  pub given : AreGiven w.lanes w'.lanes
  pub leaves : List Granted
  pub decided : IsPermutation leaves (decided_grants w'.lanes)
  pub all : IsPermutation (map ask_in (in_round w.lanes)) (map granted_ask leaves)
  pub tree : LimitTree
  pub of_tick : IsTickTree rates tick (map granted_ask leaves) tree
  pub best : IsFair rates.share_by (map granted_ask leaves) tree (map granted_octets leaves)
  pub total_is : total ≡ sum (map granted_octets leaves)

abbrev pub DecisionsAreBest : Type 0
DecisionsAreBest = OfEachDecision AreBestInRound

-- the octets decided for a lane whose ask counts under the name
abbrev pub decided_under : Rates → Name → Lane → ℕ
decided_under rates n l = if bears_in rates n l.shown.ask then decided_of l else 0

-- each decision keeps the limit of each name in its tick
abbrev pub DecisionsKeepLimits : Type 0
DecisionsKeepLimits =
    OfEachDecision
    (λ rates w tick total w'. (n : Name) (most : ℕ)
    → rate_limit (rate_of rates n) tick ≡ Some most
    → sum_by (decided_under rates n) w'.lanes ≤ most)

-- each lane in Round gets at least the floor of its ask
abbrev pub DecisionsKeepFloors : Type 0
DecisionsKeepFloors =
    OfEachDecision
    (λ rates w tick total w'. (i : ℕ) (l m : Lane) (a : Ask) → slice_get w.lanes i ≡ Some l
    → slice_get w'.lanes i ≡ Some m
    → l.shown.state ≡ state.Round → l.shown.ask ≡ Some a → floor_of rates a ≤ decided_of m)
