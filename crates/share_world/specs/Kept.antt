-- Invariants of lanes and of the world in every run.
use Rattle.std.specs.Prelude.{◌≡◌, ◌≢◌, ℕ, ◌+◌, ◌≤◌, List, [], ◌∷◌, ◌++◌, sum, sum_by, None, ⊤}
use Rattle.grant_ledger.specs.declared.ledger.TheConstants.{MAX_ISSUED}
use Rattle.world_terms.specs.declared.event.LaneState.{LaneState}
use Rattle.world_terms.specs.declared.event.LaneState.TheVariants as state
use Rattle.world_terms.specs.Lanes.{Lane, amount}
use Rattle.world_terms.specs.Sums.{shares}

-- the amounts posted and not taken: one if the lane is Granted, otherwise none
abbrev pub Waits : LaneState → List ℕ → Type 0
Waits state.Granted ws = (n : ℕ) × (ws ≡ n ∷ [])
Waits s ws = ws ≡ []

-- a state in which the lane may have had no ask yet
abbrev pub IsUnasked : LaneState → Type 0
IsUnasked state.Free = ⊤
IsUnasked state.Worker = ⊤
IsUnasked s = ⊥

-- Taken is a prefix of posted; each amount taken was moved, given back or is in hand; a lane
-- without an ask has nothing in hand.
pub record IsSound (l : Lane) : Type 0 where
  pub waiting : List ℕ
  pub posted_is : l.shown.posted ≡ l.shown.taken ++ waiting
  pub waits : Waits l.shown.state waiting
  pub in_hand : l.shown.state ≢ state.Worker → l.hidden.hand ≡ None
  pub in_round : l.shown.state ≢ state.Round → l.hidden.decided ≡ None
  pub taken_is : l.hidden.moved + l.hidden.back + amount l.hidden.hand ≡ sum l.shown.taken
  pub unasked : l.shown.ask ≡ None → (l.hidden.hand ≡ None) × IsUnasked l.shown.state

-- the octets issued are the sum of the shares, and at most what one book issues
pub record IsBooked (lanes : List Lane) (issued : ℕ) : Type 0 where
  pub shares_are : issued ≡ sum_by shares lanes
  pub most : issued ≤ MAX_ISSUED
