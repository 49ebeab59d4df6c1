-- The rounds of a second, by lanes: of two lanes of peers both have had the same but for an octet.
use Rattle.std.specs.Prelude.{◌≡◌, ℕ, ◌+◌, ◌<◌, ◌^◌, ◌⊎◌, nat_eq, if◌then◌else◌, List, [], ◌∷◌, ◌++◌, length, map, sum_by, slice_index, Result, Ok, Err}
use Rattle.std.specs.List.{All}
use Rattle.grant_ledger.specs.declared.ledger.TheConstants.{MAX_LANES}
use Rattle.line_rates.specs.declared.ask.Ask.{Ask}
use Rattle.line_rates.specs.Rates.{Rates}
use Rattle.lane_desk.specs.declared.record.RoundRecord.{RoundRecord}
use Rattle.lane_desk.specs.declared.record.RoundFault.{RoundFault}
use Rattle.lane_desk.specs.Peers.{ArePeersAt, IsTurned}
use Rattle.proof_log.specs.declared.log.ProofLog.{ProofLog}
use Rattle.round_pace.specs.Paced.{Paced}
use Rattle.paced_rounds.specs.Evenness.{IsEven}
use Rattle.paced_rounds.specs.Turning.{second_of, had_all}

-- a round: the rates that it was offered, and the lane, the ask and the grant of each leaf
pub record TurnRound : Type 0 where
  pub rates : Rates
  pub lanes : List ℕ
  pub asks : List Ask
  pub grants : List ℕ

-- a round in the log: the pace that offered it, and its leaves
abbrev pub LeafEntry : Type 0
LeafEntry = (ℕ × Ask) × ℕ

abbrev pub lane_of : LeafEntry → ℕ
lane_of x = x.0.0

abbrev pub ask_of : LeafEntry → Ask
ask_of x = x.0.1

abbrev pub grant_of : LeafEntry → ℕ
grant_of x = x.1

abbrev pub TurnEntry : Type 0
TurnEntry = Paced × ProofLog (ℕ × Ask) ℕ

abbrev pub turn_in : TurnEntry → TurnRound
turn_in x = record {
  rates = x.0.offered;
  lanes = map lane_of x.1.items;
  asks = map ask_of x.1.items;
  grants = map grant_of x.1.items;
}

-- the rounds of the log
abbrev pub turns_in : List TurnEntry → List TurnRound
turns_in items = map turn_in items

-- those of the second of a moment, if the last round was at another
abbrev pub turns_at : ℕ → ℕ → List TurnRound → List TurnRound
turns_at now latest rs = if nat_eq (second_of latest) (second_of now) then rs else []

-- with one that was offered these rates; a refused one grants nothing
abbrev pub turns_after : {A : Type 0} → Rates → Result (RoundRecord A) RoundFault → List TurnRound
    → List TurnRound
turns_after rates (Ok r) rs = rs
    ++ record {
      rates = rates;
      lanes = r.lanes.items;
      asks = r.asks.items;
      grants = r.sealed.grants;
    } ∷ []
turns_after rates (Err f) rs = rs

-- the numbers of the lanes as a second begins are below 64
pub record AreStarts (had : List ℕ) : Type 0 where
  pub wide : length had ≡ MAX_LANES
  pub small : (lane : ℕ) → slice_index had lane < 64

-- rounds by turns, from the numbers of the lanes before them to those after them
abbrev pub LeadTurned : List ℕ → List TurnRound → List ℕ → Type 0
LeadTurned had [] now = had ≡ now
LeadTurned had (r ∷ rs) now = IsTurned had r.rates r.lanes r.asks r.grants
    × LeadTurned (had_all r.lanes r.grants had) rs now

-- the rounds of a second so far, which left these numbers
pub record IsSecond (had : List ℕ) (rs : List TurnRound) : Type 0 where
  pub begun : List ℕ
  pub starts : AreStarts begun
  pub lead : LeadTurned begun rs had

-- the octets that a lane was granted in a round, and in rounds
abbrev pub to_lane : ℕ → List ℕ → List ℕ → ℕ
to_lane lane [] grants = 0
to_lane lane (l ∷ ls) [] = 0
to_lane lane (l ∷ ls) (n ∷ ns) = (if nat_eq l lane then n else 0) + to_lane lane ls ns

abbrev pub octets_to : ℕ → TurnRound → ℕ
octets_to lane r = to_lane lane r.lanes r.grants

abbrev pub had_by : ℕ → List TurnRound → ℕ
had_by lane rs = sum_by (octets_to lane) rs

abbrev pub IsAbsent : ℕ → TurnRound → Type 0
IsAbsent lane r = (i : ℕ) → i < length r.lanes → slice_index r.lanes i ≡ lane → ⊥

-- each lane has a leaf, and these are of peers that wait
abbrev pub AreBoth : ℕ → ℕ → TurnRound → Type 0
AreBoth a b r = (i : ℕ) × (j : ℕ) × (i < length r.lanes) × (j < length r.lanes)
    × (slice_index r.lanes i ≡ a) × (slice_index r.lanes j ≡ b)
    × ArePeersAt r.rates r.asks r.grants i j

-- a round with both lanes or neither
abbrev pub AreBothOrNeither : ℕ → ℕ → TurnRound → Type 0
AreBothOrNeither a b r = (IsAbsent a r × IsAbsent b r) ⊎ AreBoth a b r

-- Two lanes that were in the same rounds of a second, with peers that wait, have had the same but
-- for an octet, if neither has had 2^58 octets.
abbrev pub LanesAreEven : List TurnRound → Type 0
LanesAreEven rs = (a b : ℕ) → a < MAX_LANES → b < MAX_LANES → All (AreBothOrNeither a b) rs
    → had_by a rs < 2 ^ 58 → had_by b rs < 2 ^ 58 → IsEven (had_by a rs) (had_by b rs)

-- So it is after any rounds of a second by turns.
abbrev pub RoundsAreEven : Type 0
RoundsAreEven = (had : List ℕ) (rs : List TurnRound) → IsSecond had rs → LanesAreEven rs
