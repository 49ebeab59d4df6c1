-- Each exchange on a lane's word is one event of the world, in what words and views show.
use Rattle.std.specs.Prelude.{◌≡◌, ◌≢◌, ℕ, ◌+◌, ◌≤◌, [], ◌∷◌, ◌++◌, length, slice_index, slice_set, Some}
use mathlib.Core.Option.{Option, none, some}
use lib.ListN.{get_elem?}
use Rattle.atomic_table.specs.Table.{State}
use Rattle.line_rates.specs.declared.ask.Ask.{Ask}
use Rattle.grant_ledger.specs.Books.{GrantView}
use Rattle.world_terms.specs.declared.event.Event.TheVariants as event
use Rattle.world_terms.specs.declared.event.EventAnswer.TheVariants as answer
use Rattle.world_terms.specs.Shown.{ShownStep}
use Rattle.desk_rule.specs.declared.view.DeskView.{DeskView}
use Rattle.desk_rule.specs.declared.view.LaneSlot.{LaneSlot}
use Rattle.desk_rule.specs.declared.view.LaneSlot.TheVariants.{Blank, WithAsk, WithGrant}
use Rattle.desk_rule.specs.declared.view.LaneView.{LaneView}
use Rattle.desk_rule.specs.declared.view.TraceView.{TraceView}
use Rattle.desk_rule.specs.declared.view.SeatState.TheVariants.{Free, Worker}
use Rattle.desk_rule.specs.Lanes.{Kept, Owns, Leads, lane_in, with_lane, trace_in, with_trace, with_answer, posted_by, most, sat_down, has_asked, has_taken, has_looked, has_risen, has_missed, has_collected, has_posted}
use Rattle.desk_rule.specs.Shown.{StepsTo}

-- the state after a step that wrote the word n, put h into the slot of lane i, and after which its
-- seat knows v
abbrev pub after : {N : Type 0} → State (LaneSlot N) DeskView → ℕ → ℕ → Option (LaneSlot N) → ℕ
    → DeskView → State (LaneSlot N) DeskView
after s i n h id v =
    record {
      words = slice_set s.words i n;
      homes = slice_set s.homes i h;
      views = slice_set s.views id v;
    }

-- the state after a step that changed nothing but what its seat knows
abbrev pub noted : {N : Type 0} → State (LaneSlot N) DeskView → ℕ → DeskView
    → State (LaneSlot N) DeskView
noted s id v = record { words = s.words; homes = s.homes; views = slice_set s.views id v }

-- the seat is that of the lane, and knows v
abbrev pub HasLane : {N : Type 0} → State (LaneSlot N) DeskView → ℕ → ℕ → DeskView → Type 0
HasLane s id i v = (get_elem? s.views id ≡ some v) × Owns i v

-- the seat is the round's, and knows v
abbrev pub HasTraces : {N : Type 0} → State (LaneSlot N) DeskView → ℕ → ℕ → DeskView → Type 0
HasTraces s id i v = (get_elem? s.views id ≡ some v) × Leads i v

-- sitting down: the word becomes 1, and the seat has the slot
abbrev pub SitIsEvent : Type 0 → Type 0
SitIsEvent N =
    (s : State (LaneSlot N) DeskView) (r : Kept s) (id i : ℕ) (v : DeskView) → HasLane s id i v
    → (lane_in i v).state ≡ Free
    → StepsTo r (after s i 1 none id (with_lane i (sat_down (lane_in i v)) v)) i
    (ShownStep (event.Sit i) answer.Done)

-- asking: the word becomes 2, and the ask is in the slot
abbrev pub AskIsEvent : Type 0 → Type 0
AskIsEvent N =
    (s : State (LaneSlot N) DeskView) (r : Kept s) (id i : ℕ) (v : DeskView) (a : Ask)
    → HasLane s id i v → (lane_in i v).state ≡ Worker
    → StepsTo r (after s i 2 (some (WithAsk a)) id (with_lane i (has_asked a (lane_in i v)) v)) i
    (ShownStep (event.Asked i a) answer.Done)

-- collecting if the word is 2: the ask in the slot is the last one made; the word becomes 3, and
-- the seat has the slot
abbrev pub CollectIsEvent : Type 0 → Type 0
CollectIsEvent N =
    (s : State (LaneSlot N) DeskView) (r : Kept s) (id i : ℕ) (v : DeskView) → HasTraces s id i v
    → slice_index s.words i ≡ 2
    → (a : Ask) × (get_elem? s.homes i ≡ some (some (WithAsk a)))
    × StepsTo r (after s i 3 none id (with_trace i (has_collected a (trace_in i v)) v)) i
    (λ x y. (x.ask ≡ Some a) × ShownStep (event.Collect i) answer.Got x y)

-- collecting if the word is anything else: only the try is recorded
abbrev pub MissIsEvent : Type 0 → Type 0
MissIsEvent N =
    (s : State (LaneSlot N) DeskView) (r : Kept s) (id i : ℕ) (v : DeskView) → HasTraces s id i v
    → slice_index s.words i ≢ 2
    → StepsTo r (noted s id (with_trace i (has_missed (trace_in i v)) v)) i
    (ShownStep (event.Collect i) answer.Missed)

-- posting on a lane whose ask was collected and not answered: the word becomes 4, and the grant is
-- in the slot
abbrev pub PostIsEvent : Type 0 → Type 0
PostIsEvent N =
    (s : State (LaneSlot N) DeskView) (r : Kept s) (id i : ℕ) (v : DeskView) (g : GrantView)
    → HasTraces s id i v
    → length (trace_in i v).collected ≡ length (trace_in i v).posted + 1 → g.lane ≡ i
    → posted_by v + g.octets ≤ most
    → StepsTo r (after s i 4 (some (WithGrant g)) id
    (with_answer i (has_posted g.octets (trace_in i v)) v)) i
    (ShownStep (event.Post i) (answer.Posted g.octets))

-- taking if the word is 4: the grant in the slot is the lane's; the word becomes 1, and the seat
-- has the slot
abbrev pub TakeIsEvent : Type 0 → Type 0
TakeIsEvent N =
    (s : State (LaneSlot N) DeskView) (r : Kept s) (id i : ℕ) (v : DeskView) → HasLane s id i v
    → slice_index s.words i ≡ 4
    → (g : GrantView) × (get_elem? s.homes i ≡ some (some (WithGrant g))) × (g.lane ≡ i)
    × StepsTo r (after s i 1 none id (with_lane i (has_taken g.octets (lane_in i v)) v)) i
    (ShownStep (event.Taken i) (answer.Taken g.octets))

-- taking if the word is anything else: only the look is recorded, which is not an event
abbrev pub LookIsNoEvent : Type 0 → Type 0
LookIsNoEvent N =
    (s : State (LaneSlot N) DeskView) (r : Kept s) (id i : ℕ) (v : DeskView) → HasLane s id i v
    → slice_index s.words i ≢ 4
    → StepsTo r (noted s id (with_lane i (has_looked (lane_in i v)) v)) i (λ x y. y ≡ x)

-- rising: the word becomes 0, and the slot is blank
abbrev pub RiseIsEvent : Type 0 → Type 0
RiseIsEvent N =
    (s : State (LaneSlot N) DeskView) (r : Kept s) (id i : ℕ) (v : DeskView) → HasLane s id i v
    → (lane_in i v).state ≡ Worker
    → StepsTo r (after s i 0 (some Blank) id (with_lane i (has_risen (lane_in i v)) v)) i
    (ShownStep (event.Rise i) answer.Done)

-- the views of the lane's seat and of the round's seat, for a lane with word n: posted equals
-- taken, with one more amount at 4; asks made equal asks collected, with one more at 2; and there
-- are as many amounts posted as asks collected, with one fewer at 3
pub record IsAccounted (n : ℕ) (x : LaneView) (t : TraceView) : Type 0 where
  pub granted : n ≡ 4 → (octets : ℕ) × (t.posted ≡ x.taken ++ octets ∷ [])
  pub taken : n ≢ 4 → t.posted ≡ x.taken
  pub asked : n ≡ 2 → (a : Ask) × (x.asks ≡ t.collected ++ a ∷ [])
  pub collected : n ≢ 2 → x.asks ≡ t.collected
  pub due : n ≡ 3 → length t.collected ≡ length t.posted + 1
  pub answered : n ≢ 3 → length t.collected ≡ length t.posted

-- between any two steps this is true for each lane, and all amounts posted add up to at most 2^62
abbrev pub AccountsFit : Type 0 → Type 0
AccountsFit N =
    (s : State (LaneSlot N) DeskView) → Kept s → (i j k : ℕ) (v w : DeskView) → HasLane s j i v
    → HasTraces s k i w
    → IsAccounted (slice_index s.words i) (lane_in i v) (trace_in i w) × (posted_by w ≤ most)
