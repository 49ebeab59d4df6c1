-- Lanes, and the world of lanes and rounds.
use Rattle.std.specs.Prelude.{ℕ, List, [], replicate, Option, Some, None}
use Rattle.line_rates.specs.declared.ask.Ask.{Ask}
use Rattle.world_terms.specs.declared.event.LaneState.{LaneState}
use Rattle.world_terms.specs.declared.event.LaneState.TheVariants as state

-- the part of a lane that words and views show: its state, its last ask, if it has one, and the
-- amounts posted and taken, in order
pub record Shown : Type 0 where
  pub state : LaneState
  pub ask : Option Ask
  pub posted : List ℕ
  pub taken : List ℕ

abbrev pub shown : LaneState → Option Ask → List ℕ → List ℕ → Shown
shown s a ps ts = record { state = s; ask = a; posted = ps; taken = ts }

-- the part that they do not show: the octets moved and given back, the amount in hand, and the
-- amount decided and not posted
pub record Hidden : Type 0 where
  pub moved : ℕ
  pub back : ℕ
  pub hand : Option ℕ
  pub decided : Option ℕ

abbrev pub hidden : ℕ → ℕ → Option ℕ → Option ℕ → Hidden
hidden m b h d = record { moved = m; back = b; hand = h; decided = d }

pub record Lane : Type 0 where
  pub shown : Shown
  pub hidden : Hidden

-- the lanes, the tick of the last decision, and the octets that decisions have issued
pub record World : Type 0 where
  pub lanes : List Lane
  pub last_tick : Option ℕ
  pub issued : ℕ

abbrev pub new_lane : Lane
new_lane = record { shown = shown state.Free None [] []; hidden = hidden 0 0 None None }

abbrev pub new_world : ℕ → World
new_world k = record { lanes = replicate k new_lane; last_tick = None; issued = 0 }

-- an amount; 0 if there is none
abbrev pub amount : Option ℕ → ℕ
amount None = 0
amount (Some n) = n
