-- The beats of all rows of a line.
use Rattle.std.specs.Prelude.{ℕ, ◌*◌, ◌/◌, max, min, nat_eq, if◌then◌else◌, Bool, true, false, List, slice_index_or, slice_set, replicate, Option, Some, None, refl}
use Rattle.std.specs.Coded.{Coded, code_by, coded×, coded_list}
use Rattle.line_rates.specs.declared.ask.Ask.{Ask}
use Rattle.line_rates.specs.declared.ask.Way.{Way}
use Rattle.line_rates.specs.declared.ask.Way.TheVariants.{Down, Up}
use Rattle.round_cadence.specs.declared.intervals.TheConstants.{MOST_WORTH, WORTH, WORTH_UP}
use Rattle.round_pace.specs.declared.rows.TransferRows.{TransferRows}
use Rattle.round_pace.specs.Rows.{has_floor}
use Rattle.round_cadence.specs.declared.beat.Beat.{Beat}
use Rattle.round_cadence.specs.declared.beat.WayBeats.{WayBeats}
use Rattle.round_cadence.specs.Beats.{new_beat, new_beats, added, kept, asked, capped, settled, in_way, change, beat_code, beats_code as way_beats_code}

-- the beats of the server and the directions, those of groups and users by their numbers, and those
-- of the sessions of each user, which have one beat in common, by the user's number
pub record Beats : Type 0 where
  pub server : Beat
  pub ways : WayBeats
  pub groups : List WayBeats
  pub users : List WayBeats
  pub sessions : List WayBeats

abbrev pub new_cadence : ℕ → ℕ → Beats
new_cadence users groups = record {
  server = new_beat;
  ways = new_beats;
  groups = replicate groups new_beats;
  users = replicate users new_beats;
  sessions = replicate users new_beats;
}

-- the octets that a transfer is to have in a round
abbrev pub worth_of : Way → ℕ
worth_of Down = WORTH
worth_of Up = WORTH_UP

-- the octets that the transfers of a crowd, which share a part of a row, are to have in a round:
-- each as many, and together at most those that one of them asks for
abbrev pub crowd_worth : Way → ℕ → ℕ
crowd_worth way crowd = min (worth_of way * crowd) MOST_WORTH

-- the first tick in which the row of a number is open; a number without a beat is never closed
abbrev pub opens_at : Way → List WayBeats → ℕ → ℕ
opens_at way beats number = (in_way way (slice_index_or beats number new_beats)).opens

abbrev pub opens_for : Way → List WayBeats → Option ℕ → ℕ
opens_for way beats None = 0
opens_for way beats (Some number) = opens_at way beats number

-- the first tick in which all rows that a user's transfer is within are open
abbrev pub opens_of : Way → ℕ → TransferRows → Beats → ℕ
opens_of way user rows c =
    max (max c.server.opens (in_way way c.ways).opens)
    (max (opens_for way c.groups rows.group_number)
    (max (opens_at way c.users user) (opens_at way c.sessions user)))

-- the beat of a number and a direction is changed, and no other; that of a greater number is none
abbrev pub change_at : Way → (Beat → Beat) → ℕ → List WayBeats → List WayBeats
change_at way f number beats =
    slice_set beats number (change way f (slice_index_or beats number new_beats))

abbrev pub change_for : Way → (Beat → Beat) → Option ℕ → List WayBeats → List WayBeats
change_for way f None beats = beats
change_for way f (Some number) beats = change_at way f number beats

-- The octets that a session is to have in a round of its own rate: a quarter of what it wants, if
-- that is less. Sessions share their credit, so what one that has all it wants leaves of a round's
-- is lost to it.
abbrev pub session_worth : Ask → ℕ
session_worth a = min (worth_of a.way) (a.want / 4)

-- a beat after a grant of the current round to an ask, whose session has a guarantee or, by a floor
-- of 0, none
abbrev pub added_to : ℕ → ℕ → ℕ → ℕ → Beat → Beat
added_to floor grant crowd worth b =
    if nat_eq floor 0 then added grant worth b else kept grant floor worth crowd b

-- a beat of a row that is shared among crowds, after a grant of the current round to an ask of one
abbrev pub crowd_added : Ask → TransferRows → ℕ → ℕ → Beat → Beat
crowd_added a rows grant crowd b =
    added_to rows.floor grant crowd (crowd_worth a.way crowd) b

-- The beats after a grant of the current round to an ask, which shares its part of the line with a
-- crowd. Among the user's own transfers each has a part; each session has its rate to itself.
abbrev pub add_to : Ask → TransferRows → ℕ → ℕ → Beats → Beats
add_to a rows grant crowd c = record {
  server = crowd_added a rows grant crowd c.server;
  ways = change a.way (crowd_added a rows grant crowd) c.ways;
  groups = change_for a.way (crowd_added a rows grant crowd) rows.group_number c.groups;
  users = change_at a.way (added_to rows.floor grant 1 (worth_of a.way)) a.user c.users;
  sessions = change_at a.way (asked (session_worth a)) a.user c.sessions;
}

-- the sooner of two ticks in which rows open; 0 is that of a row that is open
abbrev pub soonest : ℕ → ℕ → ℕ
soonest one other =
    if nat_eq one 0 then other else if nat_eq other 0 then one else min one other

-- the tick in which the first of the outer rows opens: of the line, of the group, of the user too
abbrev pub line_opens : Way → Beats → ℕ
line_opens way c = soonest c.server.opens (in_way way c.ways).opens

abbrev pub inner_opens : Way → TransferRows → Beats → ℕ
inner_opens way rows c = soonest (line_opens way c) (opens_for way c.groups rows.group_number)

abbrev pub own_opens : Way → ℕ → TransferRows → Beats → ℕ
own_opens way user rows c = soonest (inner_opens way rows c) (opens_at way c.users user)

-- each row of a transfer opens no later than those that it is within
abbrev pub aligned : Way → ℕ → TransferRows → Beats → Beats
aligned way user rows c = record {
  server = c.server;
  ways = change way (capped c.server.opens) c.ways;
  groups = change_for way (capped (line_opens way c)) rows.group_number c.groups;
  users = change_at way (capped (inner_opens way rows c)) user c.users;
  sessions = change_at way (capped (own_opens way user rows c)) user c.sessions;
}

-- with a guarantee they are aligned: others may drain the outer rows in their round
abbrev pub align_if : Bool → Way → ℕ → TransferRows → Beats → Beats
align_if true way user rows c = aligned way user rows c
align_if false way user rows c = c

-- the beats after a round in a tick that left these credits, for a user's transfer
abbrev pub settled_of : Way → ℕ → TransferRows → ℕ → Beats → Beats
settled_of way user rows tick c = record {
  server = settled tick rows.server c.server;
  ways = change way (settled tick rows.way) c.ways;
  groups = change_for way (settled tick rows.group) rows.group_number c.groups;
  users = change_at way (settled tick rows.user) user c.users;
  sessions = change_at way (settled tick rows.session) user c.sessions;
}

-- the same, and aligned with a guarantee
abbrev pub settle_of : Way → ℕ → TransferRows → ℕ → Beats → Beats
settle_of way user rows tick c =
    align_if (has_floor rows) way user rows (settled_of way user rows tick c)

-- a code, by which proofs distinguish values
abbrev pub beats_code : Coded Beats
beats_code =
    code_by ((Beat × WayBeats) × (List WayBeats × (List WayBeats × List WayBeats)))
    (coded× (coded× beat_code way_beats_code)
    (coded× (coded_list way_beats_code)
    (coded× (coded_list way_beats_code) (coded_list way_beats_code))))
    (λ c. ((c.server, c.ways), (c.groups, (c.users, c.sessions))))
    (λ p. record {
      server = p.0.0;
      ways = p.0.1;
      groups = p.1.0;
      users = p.1.1.0;
      sessions = p.1.1.1;
    })
    (λ _. refl)
