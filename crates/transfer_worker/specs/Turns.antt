-- The effect of a turn on a seat, a transfer and a tally.
use Rattle.std.specs.Prelude.{◌≡◌, ◌≢◌, ◌+◌, ◌-◌, ◌≤◌, ℕ, List, Option, sum}
use Rattle.grant_ledger.specs.Books.{TallyView, capped}
use Rattle.desk_rule.specs.declared.view.LaneView.{LaneView}
use Rattle.desk_rule.specs.Lanes.{has_taken, most}
use Rattle.data_pump.specs.declared.pumped.PumpEnd.TheVariants.{More}
use Rattle.data_pump.specs.declared.pumped.Pumped.{Pumped}
use Rattle.data_pump.specs.Downloads.{OutView, MovesOut}
use Rattle.data_pump.specs.Uploads.{InView, MovesIn}
use Rattle.virtual_tree.specs.Calls.{Target}

-- of a grant of `octets`, `moved` were moved, and the rest was given back
pub record IsSpent (octets moved : ℕ) (old new : TallyView) : Type 0 where
  pub moved_is : new.moved ≡ capped old.moved moved
  pub back_is : new.back ≡ capped old.back (octets - moved)

-- the tally adds up to everything that the seat took
abbrev pub IsReported : TallyView → LaneView → Type 0
IsReported tally x = tally.moved + tally.back ≡ sum x.taken

-- the seat took one grant, which was pumped and spent, and nothing else
pub record TurnsOut {S K : Type 0} (remaining : S → Option (List ℕ))
    (contents : K → Option (List ℕ)) (x x' : LaneView) (old new : OutView S K) (t t' : TallyView)
    (pumped : Pumped) : Type 0 where
  pub octets : ℕ
  pub took : x' ≡ has_taken octets x
  pub within : sum x'.taken ≤ most
  pub moves : MovesOut remaining contents octets old.flow new.flow pumped
  pub last_is : new.last ≡ pumped.end
  pub spent : IsSpent octets pumped.moved t t'

pub record TurnsIn {K X : Type 0} (remaining : K → Option (List ℕ))
    (collected : X → Option (List ℕ)) (target : X → Option Target) (x x' : LaneView)
    (old new : InView K X) (t t' : TallyView) (pumped : Pumped) : Type 0 where
  pub octets : ℕ
  pub took : x' ≡ has_taken octets x
  pub within : sum x'.taken ≤ most
  -- after a pump's end other than More, nothing is moved, and the same end is returned
  pub moves : old.last ≡ More → MovesIn remaining collected target octets old.flow new.flow pumped
  pub over : old.last ≢ More → (new ≡ old) × (pumped ≡ record { moved = 0; end = old.last })
  pub last_is : new.last ≡ pumped.end
  pub spent : IsSpent octets pumped.moved t t'
