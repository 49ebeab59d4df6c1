-- The beats of rows after rounds, and the moments of rounds by them.
use Rattle.std.specs.Prelude.{ℕ, ◌*◌, ◌-◌, ◌^◌, min, Bool, ◌&&◌, nat_lt, nat_le, if◌then◌else◌, List, [], ◌∷◌, Option, Result, Ok, Err}
use Rattle.line_rates.specs.declared.ask.Ask.{Ask}
use Rattle.line_rates.specs.declared.ask.Name.{Name}
use Rattle.line_rates.specs.declared.ask.Way.{Way}
use Rattle.line_rates.specs.Granted.{Granted}
use Rattle.lane_desk.specs.declared.record.RoundRecord.{RoundRecord}
use Rattle.lane_desk.specs.declared.record.RoundFault.{RoundFault}
use Rattle.round_pace.specs.declared.due.Due.{Due}
use Rattle.round_pace.specs.declared.due.Due.TheVariants.{At}
use Rattle.round_pace.specs.Earned.{tick_of}
use Rattle.round_pace.specs.Paced.{Paced}
use Rattle.round_pace.specs.Rows.{have_left, rows_of}
use Rattle.round_pace.specs.Spent.{due_for_in}
use Rattle.round_cadence.specs.Cadences.{Beats, opens_of, add_to, settle_of}
use Rattle.round_cadence.specs.Closed.{closed_by}
use Rattle.round_cadence.specs.Crowds.{crowd_of}
use Rattle.paced_rounds.specs.History.{leaves}
use Rattle.round_pace.specs.declared.credit.TheConstants.{TICK_MICROS}
use Rattle.paced_rounds.specs.declared.rounds.TheConstants.{MOST_ASKED}

-- the grants of a round with these asks are added, each to the rows of its ask with its crowd
abbrev pub add_all : Paced → List Ask → List Granted → Beats → Beats
add_all p asks [] c = c
add_all p asks (g ∷ gs) c =
    add_all p asks gs (add_to g.ask (rows_of g.ask.way g.ask.user p) g.octets
    (crowd_of p.offered.share_by asks g.ask) c)

-- the rows of these asks are settled, at a tick
abbrev pub settle_all : Paced → ℕ → List Ask → Beats → Beats
settle_all p tick [] c = c
settle_all p tick (x ∷ xs) c =
    settle_all p tick xs (settle_of x.way x.user (rows_of x.way x.user p) tick c)

-- the beats after a round at a tick that left this pace; a refused one changes none
abbrev pub beats_after : {A : Type 0} → Paced → ℕ → Result (RoundRecord A) RoundFault → Beats
    → Beats
beats_after p tick (Ok r) c =
    settle_all p tick r.asks.items
    (add_all p r.asks.items (leaves r.asks.items r.sealed.grants) c)
beats_after p tick (Err f) c = c

-- the first tick in which a user's transfer may be in a round
abbrev pub opens_in : Way → ℕ → Paced → Beats → ℕ
opens_in way user p c = opens_of way user (rows_of way user p) c

-- all rows that a user's transfer is within are open at a moment
abbrev pub is_open : Way → ℕ → Paced → Beats → ℕ → Bool
is_open way user p c now = nat_le (opens_in way user p c) (tick_of now)

-- they are, and each has enough left for all that a round can be asked for
abbrev pub has_plenty : Way → ℕ → Paced → Beats → ℕ → Bool
has_plenty way user p c now =
    is_open way user p c now && have_left (rows_of way user p) MOST_ASKED

-- The earliest moment of the next round for a user's transfer: that at which its rows open; if they
-- are open, that of the pace.
abbrev pub due_open : Way → ℕ → Paced → Beats → ℕ → Due
due_open way user p c now =
    if nat_lt (tick_of now) (opens_in way user p c)
    then At (min (opens_in way user p c * TICK_MICROS) (2 ^ 64 - 1))
    else due_for_in way user p now

-- the innermost row that an ask's transfer is within and that is closed at a moment
abbrev pub closed_in : Ask → Paced → Beats → ℕ → Option Name
closed_in a p c now = closed_by a (rows_of a.way a.user p) (tick_of now) c
