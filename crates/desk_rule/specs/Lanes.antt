-- The rule of the desk's table, and the result of each step. Word i is 0 if lane i is free, 1 if a
-- worker has it, 2 if it has asked, 3 if the round has its ask, and 4 if a grant waits.
use Rattle.std.specs.Prelude.{◌≡◌, ℕ, ◌+◌, ◌<◌, ◌≤◌, List, [], ◌∷◌, ◌++◌, length, sum, slice_index, slice_index_or, slice_set, replicate, nat_eq, Bool, false, ◌||◌}
use mathlib.Core.Option.{Option, none, some}
use lib.ListN.{get_elem?}
use Rattle.atomic_table.specs.Table.{State, Me, Step, rest}
use Rattle.line_rates.specs.declared.ask.Ask.{Ask}
use Rattle.grant_ledger.specs.Books.{GrantView}
use Rattle.grant_ledger.specs.declared.ledger.TheConstants.{MAX_ISSUED}
use Rattle.desk_rule.specs.declared.view.LaneSlot.{LaneSlot}
use Rattle.desk_rule.specs.declared.view.LaneSlot.TheVariants.{Blank, WithAsk, WithGrant}
use Rattle.desk_rule.specs.declared.view.SeatState.{SeatState}
use Rattle.desk_rule.specs.declared.view.SeatState.TheVariants.{Free, Worker, Asked}
use Rattle.desk_rule.specs.declared.view.LaneView.{LaneView}
use Rattle.desk_rule.specs.declared.view.TraceView.{TraceView}
use Rattle.desk_rule.specs.declared.view.RoundView.{RoundView}
use Rattle.desk_rule.specs.declared.view.DeskView.{DeskView}
use Rattle.desk_rule.specs.declared.view.DeskView.TheVariants.{Spent, Lane, Round}

abbrev pub lane_view : SeatState → List ℕ → ℕ → List Ask → List ℕ → LaneView
lane_view st n k asks taken =
    record { state = st; sittings = n; looks = k; asks = asks; taken = taken }

abbrev pub fresh : LaneView
fresh = lane_view Free [] 0 [] []

abbrev pub trace_view : ℕ → List Ask → List ℕ → TraceView
trace_view n asks posted = record { tries = n; collected = asks; posted = posted }

abbrev pub untraced : TraceView
untraced = trace_view 0 [] []

-- sum of all amounts posted
abbrev pub posted_in : List TraceView → ℕ
posted_in [] = 0
posted_in (t ∷ ts) = sum t.posted + posted_in ts

-- the most that all amounts posted add up to: what a book issues
abbrev pub most : ℕ
most = MAX_ISSUED

module _ (k : ℕ) (lane : ℕ → LaneView) (trace : ℕ → TraceView) (owner : ℕ → ℕ) (desk dealt : ℕ)
    (j : ℕ) where
  pub record KnowsRound (sh : RoundView) : Type 0 where
    pub is_desk : desk ≡ j
    pub dealt_is : sh.dealt ≡ dealt
    pub wide : length sh.traces ≡ k
    pub each_trace : (i : ℕ) → i < k → get_elem? sh.traces i ≡ some (trace i)
    pub each_back : (i : ℕ) (x : LaneView) → get_elem? sh.back i ≡ some x
        → (owner i ≡ j) × (lane i ≡ x) × (i < dealt)
    pub within : posted_in sh.traces ≤ most

  -- the claim that a view makes
  abbrev pub Knows : DeskView → Type 0
  Knows Spent = Unit {0}
  Knows (Lane i x) = (owner i ≡ j) × (lane i ≡ x) × (i < dealt)
  Knows (Round sh) = KnowsRound sh

abbrev pub first_round : ℕ → RoundView
first_round k = record { dealt = 0; traces = replicate k untraced; back = []; answering = false }

-- an ask was collected and not answered
abbrev pub is_due : TraceView → Bool
is_due t = nat_eq (length t.collected) (length t.posted + 1)

-- that of some lane was
abbrev pub any_due : List TraceView → Bool
any_due [] = false
any_due (t ∷ ts) = is_due t || any_due ts

-- the view of lane i as its seat has it
abbrev pub lane_in : ℕ → DeskView → LaneView
lane_in i Spent = fresh
lane_in i (Lane k x) = x
lane_in i (Round sh) = slice_index_or sh.back i fresh

abbrev pub with_lane : ℕ → LaneView → DeskView → DeskView
with_lane i x Spent = Spent
with_lane i x (Lane k y) = Lane k x
with_lane i x (Round sh) =
    Round record {
      dealt = sh.dealt;
      traces = sh.traces;
      back = slice_set sh.back i x;
      answering = sh.answering;
    }

abbrev pub Owns : ℕ → DeskView → Type 0
Owns i Spent = ⊥
Owns i (Lane k x) = k ≡ i
Owns i (Round sh) = i < length sh.back

abbrev pub trace_in : ℕ → DeskView → TraceView
trace_in i Spent = untraced
trace_in i (Lane k x) = untraced
trace_in i (Round sh) = slice_index_or sh.traces i untraced

abbrev pub with_trace : ℕ → TraceView → DeskView → DeskView
with_trace i t Spent = Spent
with_trace i t (Lane k y) = Lane k y
with_trace i t (Round sh) =
    Round record {
      dealt = sh.dealt;
      traces = slice_set sh.traces i t;
      back = sh.back;
      answering = sh.answering;
    }

-- whether the round has answered a lane and not yet each other one that is due
abbrev pub is_answering : DeskView → Bool
is_answering Spent = false
is_answering (Lane k x) = false
is_answering (Round sh) = sh.answering

-- the view after an answer
abbrev pub now_answering : DeskView → DeskView
now_answering Spent = Spent
now_answering (Lane k x) = Lane k x
now_answering (Round sh) =
    Round record {
      dealt = sh.dealt;
      traces = sh.traces;
      back = sh.back;
      answering = any_due sh.traces;
    }

abbrev pub with_answer : ℕ → TraceView → DeskView → DeskView
with_answer i t v = now_answering (with_trace i t v)

abbrev pub Leads : ℕ → DeskView → Type 0
Leads i Spent = ⊥
Leads i (Lane k x) = ⊥
Leads i (Round sh) = i < length sh.traces

abbrev pub posted_by : DeskView → ℕ
posted_by Spent = 0
posted_by (Lane k x) = 0
posted_by (Round sh) = posted_in sh.traces

-- the views of a lane's seat after each of its steps
abbrev pub sat_down : LaneView → LaneView
sat_down x = lane_view Worker (x.sittings ++ length x.asks ∷ []) x.looks x.asks x.taken

abbrev pub has_asked : Ask → LaneView → LaneView
has_asked a x = lane_view Asked x.sittings x.looks (x.asks ++ a ∷ []) x.taken

abbrev pub has_taken : ℕ → LaneView → LaneView
has_taken n x = lane_view Worker x.sittings x.looks x.asks (x.taken ++ n ∷ [])

abbrev pub has_looked : LaneView → LaneView
has_looked x = lane_view x.state x.sittings (x.looks + 1) x.asks x.taken

abbrev pub has_risen : LaneView → LaneView
has_risen x = lane_view Free x.sittings x.looks x.asks x.taken

-- the views of a lane in the round's seat after each of its steps
abbrev pub has_missed : TraceView → TraceView
has_missed t = trace_view (t.tries + 1) t.collected t.posted

abbrev pub has_collected : Ask → TraceView → TraceView
has_collected a t = trace_view (t.tries + 1) (t.collected ++ a ∷ []) t.posted

abbrev pub has_posted : ℕ → TraceView → TraceView
has_posted n t = trace_view t.tries t.collected (t.posted ++ n ∷ [])

-- if one seat knows both sides of the lane, they agree, except for these waiting amounts
abbrev pub Fits : ℕ → DeskView → List ℕ → Type 0
Fits i v waiting = Leads i v → (trace_in i v).posted ≡ (lane_in i v).taken ++ waiting

-- the round's view after a seat was split off: that of the next lane
abbrev pub dealer_after : DeskView → DeskView
dealer_after Spent = Spent
dealer_after (Lane k x) = Lane k x
dealer_after (Round sh) =
    Round record {
      dealt = sh.dealt + 1;
      traces = sh.traces;
      back = sh.back;
      answering = sh.answering;
    }

abbrev pub dealt_to : DeskView → DeskView
dealt_to Spent = Spent
dealt_to (Lane k x) = Spent
dealt_to (Round sh) = Lane sh.dealt fresh

abbrev pub taken_in : DeskView → DeskView → DeskView
taken_in (Round sh) (Lane k x) =
    Round record {
      dealt = sh.dealt;
      traces = sh.traces;
      back = sh.back ++ x ∷ [];
      answering = sh.answering;
    }
taken_in (Round sh) Spent = Round sh
taken_in (Round sh) (Round th) = Round sh
taken_in Spent w = Spent
taken_in (Lane k x) w = Lane k x

-- the phase of a lane, with the content of its slot
pub data Phase (N : Type 0) : Type 0 where
  free : Phase N
  worker : Phase N
  asked : Ask → Phase N
  round : Phase N
  granted : GrantView → Phase N

module _ {N : Type 0} where
  abbrev pub code : Phase N → ℕ
  code free = 0
  code worker = 1
  code (asked a) = 2
  code round = 3
  code (granted g) = 4

  -- the content of the slot; none if a seat has it
  abbrev pub home_of : Phase N → Option (LaneSlot N)
  home_of free = some Blank
  home_of worker = none
  home_of (asked a) = some (WithAsk a)
  home_of round = none
  home_of (granted g) = some (WithGrant g)

  abbrev pub state_of : Phase N → SeatState
  state_of free = Free
  state_of worker = Worker
  state_of (asked a) = Asked
  state_of round = Asked
  state_of (granted g) = Asked

  -- the ask made and not collected
  abbrev pub open_ask : Phase N → List Ask
  open_ask free = []
  open_ask worker = []
  open_ask (asked a) = a ∷ []
  open_ask round = []
  open_ask (granted g) = []

  -- the amount posted and not taken
  abbrev pub open_grant : Phase N → List ℕ
  open_grant free = []
  open_grant worker = []
  open_grant (asked a) = []
  open_grant round = []
  open_grant (granted g) = g.octets ∷ []

  -- 1 if an ask was collected and not answered
  abbrev pub ahead : Phase N → ℕ
  ahead free = 0
  ahead worker = 0
  ahead (asked a) = 0
  ahead round = 1
  ahead (granted g) = 0

  abbrev pub Bears : ℕ → Phase N → Type 0
  Bears i free = Unit {0}
  Bears i worker = Unit {0}
  Bears i (asked a) = Unit {0}
  Bears i round = Unit {0}
  Bears i (granted g) = g.lane ≡ i

  -- the lane's word n and slot h agree with the steps of its seat and of the round
  pub record Agrees (i n : ℕ) (h : Option (Option (LaneSlot N))) (x : LaneView) (t : TraceView)
      (ph : Phase N) : Type 0 where
    pub word_is : n ≡ code ph
    pub home_is : h ≡ some (home_of ph)
    pub state_is : x.state ≡ state_of ph
    pub asks_are : x.asks ≡ t.collected ++ open_ask ph
    pub posted_are : t.posted ≡ x.taken ++ open_grant ph
    pub answered : length t.collected ≡ length t.posted + ahead ph
    pub within : sum t.posted ≤ most
    pub bears : Bears i ph

  pub record Kept (s : State (LaneSlot N) DeskView) : Type 0 where
    pub lane : ℕ → LaneView
    pub trace : ℕ → TraceView
    pub phase : ℕ → Phase N
    pub owner : ℕ → ℕ
    pub desk : ℕ
    pub dealt : ℕ
    pub wide : length s.homes ≤ length s.words
    pub few : dealt ≤ length s.homes
    pub new : (i : ℕ) → dealt ≤ i → lane i ≡ fresh
    pub each_lane : (i : ℕ) → i < length s.homes
        → Agrees i (slice_index s.words i) (get_elem? s.homes i) (lane i) (trace i) (phase i)
    pub each_view : (j : ℕ) (v : DeskView) → get_elem? s.views j ≡ some v
        → Knows (length s.homes) lane trace owner desk dealt j v

  abbrev pub sits : Step (LaneSlot N) → Me (LaneSlot N) DeskView → ℕ → Me (LaneSlot N) DeskView
      → Type 0
  sits st m r m' =
      m' ≡ (with_lane st.word (sat_down (lane_in st.word m.0)) m.0, (st.word, Blank) ∷ m.1)

  abbrev pub asks : Step (LaneSlot N) → Me (LaneSlot N) DeskView → ℕ → Me (LaneSlot N) DeskView
      → Type 0
  asks st m r m' =
      (a : Ask) → m.1 ≡ (st.word, WithAsk a) ∷ rest m.1
      → m' ≡ (with_lane st.word (has_asked a (lane_in st.word m.0)) m.0, rest m.1)

  abbrev pub Collected : Step (LaneSlot N) → Me (LaneSlot N) DeskView → Me (LaneSlot N) DeskView
      → Type 0
  Collected st m m' =
      (a : Ask) × (length (trace_in st.word m.0).collected ≡ length (trace_in st.word m.0).posted)
      × (m' ≡ (
        with_trace st.word (has_collected a (trace_in st.word m.0)) m.0,
        (st.word, WithAsk a) ∷ m.1,
      ))

  abbrev pub collects : Step (LaneSlot N) → Me (LaneSlot N) DeskView → ℕ → Me (LaneSlot N) DeskView
      → Type 0
  collects st m r m' =
      (r ≡ 2 → Collected st m m')
      × (¬ (r ≡ 2) → m' ≡ (with_trace st.word (has_missed (trace_in st.word m.0)) m.0, m.1))

  abbrev pub posts : Step (LaneSlot N) → Me (LaneSlot N) DeskView → ℕ → Me (LaneSlot N) DeskView
      → Type 0
  posts st m r m' =
      (g : GrantView) → m.1 ≡ (st.word, WithGrant g) ∷ rest m.1
      → m' ≡ (with_answer st.word (has_posted g.octets (trace_in st.word m.0)) m.0, rest m.1)

  abbrev pub Took : Step (LaneSlot N) → Me (LaneSlot N) DeskView → Me (LaneSlot N) DeskView → Type 0
  Took st m m' =
      (g : GrantView) × (g.lane ≡ st.word)
      × (m' ≡ (
        with_lane st.word (has_taken g.octets (lane_in st.word m.0)) m.0,
        (st.word, WithGrant g) ∷ m.1,
      ))
      × (sum ((lane_in st.word m.0).taken ++ g.octets ∷ []) ≤ most)
      × Fits st.word m.0 (g.octets ∷ [])

  abbrev pub takes_grant : Step (LaneSlot N) → Me (LaneSlot N) DeskView → ℕ
      → Me (LaneSlot N) DeskView → Type 0
  takes_grant st m r m' =
      (r ≡ 4 → Took st m m')
      × (¬ (r ≡ 4)
      → (m' ≡ (with_lane st.word (has_looked (lane_in st.word m.0)) m.0, m.1))
      × Fits st.word m.0 [])

  abbrev pub rises : Step (LaneSlot N) → Me (LaneSlot N) DeskView → ℕ → Me (LaneSlot N) DeskView
      → Type 0
  rises st m r m' = m' ≡ (with_lane st.word (has_risen (lane_in st.word m.0)) m.0, rest m.1)

  -- the slot that a lane's seat has in each state
  abbrev pub held_in : SeatState → ℕ → List (ℕ × (LaneSlot N))
  held_in Free i = []
  held_in Worker i = (i, Blank) ∷ []
  held_in Asked i = []

  abbrev pub KnowsLane : Me (LaneSlot N) DeskView → ℕ → SeatState → Type 0
  KnowsLane m i st =
      (m.0 ≡ Lane i (lane_in i m.0)) × ((lane_in i m.0).state ≡ st) × (m.1 ≡ held_in st i)
