-- Peers: transfers that no rate treats differently, and their grants in a round by turns.
use Rattle.std.specs.Prelude.{◌≡◌, ℕ, ◌+◌, ◌*◌, ◌<◌, ◌≤◌, true, false, List, length, slice_index, slice_get, Some}
use Rattle.std.specs.FinMap as finite
use Rattle.line_rates.specs.declared.ask.Ask.{Ask}
use Rattle.line_rates.specs.declared.ask.Name.{Name}
use Rattle.line_rates.specs.declared.share_by.ShareBy.TheVariants as share
use Rattle.line_rates.specs.Alike.{AreAlike}
use Rattle.line_rates.specs.Names.{bears}
use Rattle.line_rates.specs.Rates.{Rates, rate_of, floor_rate}

-- the guarantee of the session of an ask
abbrev pub guarantee_of : Rates → Ask → ℕ
guarantee_of rates a = floor_rate (finite.get rates.users a.user) a.way

-- each name that ask b counts under, and ask a does not, has the rate of one that a counts under
abbrev pub HasRatesOf : Rates → Ask → Ask → Type 0
HasRatesOf rates a b = (n : Name) → bears rates n b ≡ true → bears rates n a ≡ false
    → (m : Name) × (bears rates m a ≡ true) × (rate_of rates m ≡ rate_of rates n)

-- Peers: no third ask counts under a name of one of them alone, and the rates of such names are the
-- same; so are the guarantees.
pub record ArePeers (rates : Rates) (asks : List Ask) (a b : Ask) : Type 0 where
  pub alike : AreAlike rates asks a b
  pub one : HasRatesOf rates a b
  pub other : HasRatesOf rates b a
  pub guarantees : guarantee_of rates a ≡ guarantee_of rates b

-- leaves i and j have the asks of peers, and both are granted less than they want; the line is
-- shared among its sessions
pub record ArePeersAt (rates : Rates) (asks : List Ask) (grants : List ℕ) (i j : ℕ) : Type 0 where
  pub sessions : rates.share_by ≡ share.Sessions
  pub one : Ask
  pub other : Ask
  pub one_is : slice_get asks i ≡ Some one
  pub other_is : slice_get asks j ≡ Some other
  pub peers : ArePeers rates asks one other
  pub one_waits : slice_index grants i < one.want
  pub other_waits : slice_index grants j < other.want

-- the turn of the lane of a leaf
abbrev pub turn_at : List ℕ → List ℕ → ℕ → ℕ
turn_at had lanes i = slice_index had (slice_index lanes i) * 64 + slice_index lanes i

-- A round by turns: the lanes of its leaves are different; of peers that wait neither is granted
-- more than an octet more, and the one whose turn comes first no less.
pub record IsTurned (had : List ℕ) (rates : Rates) (lanes : List ℕ) (asks : List Ask)
    (grants : List ℕ) : Type 0 where
  pub each : length lanes ≡ length grants
  pub apart : (i j : ℕ) → i < length lanes → j < length lanes
      → slice_index lanes i ≡ slice_index lanes j → i ≡ j
  pub near : (i j : ℕ) → ArePeersAt rates asks grants i j
      → slice_index grants i ≤ slice_index grants j + 1
  pub first : (i j : ℕ) → ArePeersAt rates asks grants i j
      → turn_at had lanes i < turn_at had lanes j → slice_index grants j ≤ slice_index grants i
