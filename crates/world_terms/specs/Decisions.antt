-- Decisions of rounds: fair grants for the asks collected, as the rates say.
use Rattle.std.specs.Prelude.{◌≡◌, ◌≢◌, ◌⊎◌, All, ℕ, suc, ◌+◌, ◌/◌, ◌<◌, ◌≤◌, Bool, false, nat_lt, List, [], ◌∷◌, ◌++◌, map, sum_by, Option, Some, None, IsPermutation, ⊤}
use Rattle.std.specs.List.{list_any}
use Rattle.grant_ledger.specs.declared.ledger.TheConstants.{MAX_ISSUED}
use Rattle.limit_tree.specs.Sharing.{LimitTree}
use Rattle.limit_tree.specs.declared.bounds.TheConstants.{MAX_WANT}
use Rattle.fair_terms.specs.Fair.{IsFair}
use Rattle.line_rates.specs.declared.ask.Ask.{Ask}
use Rattle.line_rates.specs.Granted.{Granted, granted_ask, granted_octets}
use Rattle.line_rates.specs.Rates.{Rates}
use Rattle.line_rates.specs.TickTree.{Asker, IsTickTree}
use Rattle.world_terms.specs.declared.event.LaneState.{LaneState}
use Rattle.world_terms.specs.declared.event.LaneState.TheVariants as state
use Rattle.world_terms.specs.Lanes.{Lane, World, hidden, amount}

abbrev pub asker_of : ℕ → LaneState → Option Ask → List Asker
asker_of i state.Round (Some a) = (i, a) ∷ []
asker_of i s a = []

-- the asks of the lanes in Round, each with its lane; the first lane in the list has this number
abbrev pub in_round_from : ℕ → List Lane → List Asker
in_round_from i [] = []
in_round_from i (l ∷ ls) = asker_of i l.shown.state l.shown.ask ++ in_round_from (suc i) ls

abbrev pub in_round : List Lane → List Asker
in_round ls = in_round_from 0 ls

abbrev pub IsPosted : Lane → Type 0
IsPosted l = l.hidden.decided ≡ None

-- no amount is decided and not posted
abbrev pub AllPosted : List Lane → Type 0
AllPosted ls = All IsPosted ls

-- the lane with an amount decided for it
abbrev pub with_amount : ℕ → Lane → Lane
with_amount n l =
    record { shown = l.shown; hidden = hidden l.hidden.moved l.hidden.back l.hidden.hand (Some n) }

-- an ask of the lane was collected and is not answered yet
abbrev pub IsDue : Lane → Type 0
IsDue l = (l.shown.state ≡ state.Round) × ((a : Ask) × (l.shown.ask ≡ Some a))

-- a lane in Round gets a decided amount; any other lane is unchanged
abbrev pub IsGiven : Lane → Lane → Type 0
IsGiven l m =
    (IsDue l × ((n : ℕ) × (m ≡ with_amount n l))) ⊎ ((l.shown.state ≢ state.Round) × (m ≡ l))

-- each lane in Round gets a decided amount, and no other lane does
abbrev pub AreGiven : List Lane → List Lane → Type 0
AreGiven [] [] = ⊤
AreGiven (l ∷ ls) (m ∷ ms) = IsGiven l m × AreGiven ls ms
AreGiven [] (m ∷ ms) = ⊥
AreGiven (l ∷ ls) [] = ⊥

abbrev pub grant_of : Option Ask → Option ℕ → List Granted
grant_of (Some a) (Some n) = record { ask = a; octets = n } ∷ []
grant_of (Some a) None = []
grant_of None d = []

-- the asks for which amounts are decided, each with its amount
abbrev pub decided_grants : List Lane → List Granted
decided_grants [] = []
decided_grants (l ∷ ls) = grant_of l.shown.ask l.hidden.decided ++ decided_grants ls

-- The decided grants are fair for the tree of the tick over their asks, which are those of the
-- lanes in Round; in some order they are the grants of its leaves.
pub record IsShared (rates : Rates) (tick : ℕ) (before after : List Lane) : Type 0 where
  pub given : AreGiven before after
  pub leaves : List Granted
  pub all : IsPermutation leaves (decided_grants after)
  pub tree : LimitTree
  pub of_tick : IsTickTree rates tick (map granted_ask leaves) tree
  pub best : IsFair rates.share_by (map granted_ask leaves) tree (map granted_octets leaves)

abbrev pub decided_of : Lane → ℕ
decided_of l = amount l.hidden.decided

-- number of octets decided and not posted
abbrev pub decided_sum : List Lane → ℕ
decided_sum ls = sum_by decided_of ls

-- the tick is above that of the last decision, if there was one
abbrev pub IsLater : ℕ → Option ℕ → Type 0
IsLater tick None = ⊤
IsLater tick (Some last) = last < tick

-- an ask wants more than a leaf may
abbrev pub wants_too_much : Asker → Bool
wants_too_much x = nat_lt MAX_WANT x.1.want

abbrev pub has_large_want : List Lane → Bool
has_large_want ls = list_any wants_too_much (in_round ls)

-- nothing is left to post, the tick is above the last one, and no ask in Round wants too much
pub record IsReady (w : World) (moment : ℕ) : Type 0 where
  pub posted : AllPosted w.lanes
  pub later : IsLater (moment / 100) w.last_tick
  pub wants : has_large_want w.lanes ≡ false

-- a decision at a moment in milliseconds; its tick is a tenth of a second
pub record IsDecision (rates : Rates) (w : World) (moment tick total : ℕ)
    (w' : World) : Type 0 where
  pub ready : IsReady w moment
  pub tick_is : tick ≡ moment / 100
  pub shared : IsShared rates tick w.lanes w'.lanes
  pub total_is : total ≡ decided_sum w'.lanes
  pub last_is : w'.last_tick ≡ Some tick
  pub issued_is : w'.issued ≡ w.issued + total
  pub most : w'.issued ≤ MAX_ISSUED
