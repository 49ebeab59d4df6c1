-- A lane's gate: its answers, and the knowledge of the lane that runs a transfer.
use Rattle.std.specs.Prelude.{ℕ, ◌+◌, ◌-◌, max, min, nat_le, nat_lt, Bool, true, false, ◌&&◌, ◌||◌, not, if◌then◌else◌, Option, None, Some}
use Rattle.data_pump.specs.declared.inflow.TheConstants.{MAX_READ}
use Rattle.lane_rounds.specs.declared.asking.TheConstants.{FEW}
use Rattle.line_rates.specs.declared.ask.Way.{Way}
use Rattle.line_rates.specs.declared.ask.Way.TheVariants.{Down, Up}
use Rattle.round_cadence.specs.declared.intervals.TheConstants.{WORTH, WORTH_UP}
use Rattle.server_house.specs.Tickets.{is_upload}
use Rattle.transfer_ticket.specs.declared.view.TicketView.{TicketView}
use Rattle.transfer_ticket.specs.declared.view.TicketView.TheVariants.{Away, Missed, Idle, Busy, Runs}
use Rattle.transfer_worker.specs.declared.gate.Go.{Go}
use Rattle.transfer_worker.specs.declared.gate.Go.TheVariants.{On, Stop}
use Rattle.transfer_worker.specs.declared.job.LaneJob.{LaneJob}
use Rattle.transfer_worker.specs.declared.job.LaneJob.TheVariants.{Send, Take}

-- a transfer stops before an ask alone, if its session has asked for that or rounds are refused to
-- it for lack of memory
abbrev pub answer : Bool → Bool → Bool → Go
answer is_before_ask is_to_stop is_starved =
    if is_before_ask && (is_to_stop || is_starved) then Stop else On

-- The number of small reads of an upload, after a read of these octets: they are counted while no
-- rate holds it back, from the last large read on.
abbrev pub dribbles_after : ℕ → Bool → ℕ → ℕ
dribbles_after dribbles is_free octets =
    if not is_free || nat_le WORTH octets then 0
    else if nat_lt octets WORTH_UP then min (dribbles + 1) 255
    else dribbles

-- The octets of an upload that are known to be there before its first read: if no rate is a limit,
-- they are not counted.
abbrev pub come_at_first : Bool → Option ℕ
come_at_first is_free = if is_free then None else Some 0

-- The octets that are known to be there after a read of this many. They are not counted while no
-- rate is a limit, nor after a read of as many as one can return, while the rates have plenty
-- left.
abbrev pub left_after : Option ℕ → Bool → Bool → ℕ → Option ℕ
left_after None is_free has_plenty octets =
    if is_free || (has_plenty && nat_le MAX_READ octets) then None else Some 0
left_after (Some come) is_free has_plenty octets =
    if is_free || (has_plenty && nat_le MAX_READ octets) then None else Some (come - octets)

-- it looks before it asks, if they are few
abbrev pub is_to_look : Option ℕ → Bool
is_to_look None = false
is_to_look (Some come) = nat_lt come FEW

-- It asks for them, and for an octet at least; if they are not counted, for as many as one read can
-- return.
abbrev pub want_of : Option ℕ → ℕ
want_of None = MAX_READ
want_of (Some come) = max (min come MAX_READ) 1

module _ {R K C : Type 0} where
  -- the direction, the user and the session of a transfer
  abbrev pub signed : LaneJob R K C → Way × ℕ × ℕ
  signed (Send user session source connection data_type) = (Down, user, session)
  signed (Take user session connection sink data_type) = (Up, user, session)

  -- the transfer that a lane runs is an upload
  abbrev pub runs_upload : TicketView (LaneJob R K C) → Bool
  runs_upload Away = false
  runs_upload Missed = false
  runs_upload Idle = false
  runs_upload (Busy job asked begun tries) = false
  runs_upload (Runs job seen looks) = is_upload job

  -- it saw that it is to stop
  abbrev pub has_seen : TicketView (LaneJob R K C) → Bool
  has_seen Away = false
  has_seen Missed = false
  has_seen Idle = false
  has_seen (Busy job asked begun tries) = false
  has_seen (Runs job seen looks) = seen
