-- The transfer of a session, step by step.
use Rattle.std.specs.Prelude.{◌≡◌, ◌⊎◌, ⊤, ℕ, ◌+◌, ◌/◌, ◌<◌, max, min, Bool, true, false, not, ◌||◌, IsTrue, Option, Some, None}
use Rattle.std.specs.declared.alloc.Global.{Global}
use Rattle.server_house.specs.declared.connection.DataConnection.{DataConnection}
use Rattle.server_house.specs.declared.transfer_end.TransferEnd.{TransferEnd}
use Rattle.server_house.specs.declared.served.Served.{Served}
use Rattle.server_house.specs.Tickets.{HasSinkOf}
use Rattle.server_house.specs.Tickets as house
use Rattle.session_table.specs.declared.actions.Job.{Job}
use Rattle.session_table.specs.declared.inputs.End.{End}
use Rattle.session_table.specs.declared.inputs.End.TheVariants.{NoConnection, NoMemory, Aborted}
use Rattle.session_table.specs.declared.inputs.Input.{Input}
use Rattle.session_table.specs.declared.inputs.Input.TheVariants.{TransferEnded}
use Rattle.socket_host.specs.Jobs.{sink_in, sink_of}
use Rattle.socket_host.specs.declared.ports.LeasedPort.{LeasedPort}
use Rattle.socket_host.specs.declared.run.Taken.{Taken}
use Rattle.socket_host.specs.declared.run.Taken.TheVariants as taken
use Rattle.socket_host.specs.declared.running.Preparation.{Preparation}
use Rattle.socket_host.specs.declared.running.Preparation.TheVariants as prepared
use Rattle.socket_host.specs.declared.running.SideTransfer.{SideTransfer}
use Rattle.socket_host.specs.declared.running.SideTransfer.TheVariants as running
use Rattle.socket_host.specs.declared.waiting.Beside.{Beside}
use Rattle.socket_host.specs.declared.waiting.Beside.TheVariants.{Look, Read}
use Rattle.transfer_ticket.specs.Tickets.{asking, begun, tried}
use Rattle.transfer_ticket.specs.declared.view.TicketView.{TicketView}
use Rattle.transfer_ticket.specs.declared.view.TicketView.TheVariants.{Away, Missed, Idle, Busy, Runs}
use Rattle.transfer_worker.specs.declared.job.LaneJob.{LaneJob}

-- the port that is listened on
abbrev pub port_in : Preparation → Option ℕ
port_in prepared.Nothing = None
port_in (prepared.Listening port) = Some port.number
port_in (prepared.Target to) = None

abbrev pub listened_in : Preparation → Option LeasedPort
listened_in prepared.Nothing = None
listened_in (prepared.Listening port) = Some port
listened_in (prepared.Target to) = None

-- a port is listened on, or nothing is prepared
abbrev pub IsNoTarget : Preparation → Type 0
IsNoTarget prepared.Nothing = ⊤
IsNoTarget (prepared.Listening port) = ⊤
IsNoTarget (prepared.Target to) = ⊥

-- the report of an end
abbrev pub event_of : {K : Type 0} → Option (TransferEnd K) → Option (Input Global K)
event_of None = None
event_of (Some reported) = Some (TransferEnded reported.end reported.sink)

-- the octets that a transfer had moved whose end is taken
abbrev pub IsMovedBy : {K : Type 0} → Option (TransferEnd K) → ℕ → Type 0
IsMovedBy None moved = ⊤
IsMovedBy (Some reported) moved = moved ≡ reported.moved

-- the time for a client to connect to its passive port, and for a client's port to answer, in
-- microseconds
abbrev pub client_time : ℕ
client_time = 60_000_000

abbrev pub answer_time : ℕ
answer_time = 5_000_000

-- the time until the next look for a data connection, in milliseconds, by the microseconds waited
-- so far: a tenth of these, from 20 to 1,000
abbrev pub pause_after : ℕ → ℕ
pause_after waited = min (max (waited / 10000) 20) 1000

module _ {J : Type 0} where
  -- the session has asked for the end of what is on its ticket
  abbrev pub has_asked : TicketView J → Bool
  has_asked Away = false
  has_asked Missed = false
  has_asked Idle = false
  has_asked (Busy job asked begun tries) = asked
  has_asked (Runs job seen looks) = false

module _ {R K C : Type 0} where
  -- the transfer on a ticket is an upload
  abbrev pub has_upload : TicketView (LaneJob R K C) → Bool
  has_upload Away = false
  has_upload Missed = false
  has_upload Idle = false
  has_upload (Busy job asked begun tries) = house.is_upload job
  has_upload (Runs job seen looks) = false

-- the knowledge of a session of its ticket
abbrev pub Ticket : (R K : Type 0) → Type 0
Ticket R K = TicketView (LaneJob (Served Global R) K DataConnection)

module _ {R K : Type 0} where
  -- a transfer that ends before it ran; the sink of an upload comes back
  abbrev pub over : End → Job Global R K → SideTransfer R K
  over end job = running.Over (record {
    end = end;
    sink = sink_in job;
    moved = 0;
  })

  -- a transfer that was taken back before a lane had begun it
  abbrev pub taken_back : LaneJob (Served Global R) K DataConnection → SideTransfer R K
  taken_back job = running.Over (record {
    end = Aborted;
    sink = sink_of job;
    moved = 0;
  })

  -- something was begun whose end is not reported
  abbrev pub is_busy : SideTransfer R K → Bool
  is_busy running.Nothing = false
  is_busy (running.Awaited port job since) = true
  is_busy (running.Connecting outgoing job since) = true
  is_busy (running.Moving connection is_aborted) = true
  is_busy (running.Over reported) = true

  -- a transfer is on the ticket
  abbrev pub is_moving : SideTransfer R K → Bool
  is_moving running.Nothing = false
  is_moving (running.Awaited port job since) = false
  is_moving (running.Connecting outgoing job since) = false
  is_moving (running.Moving connection is_aborted) = true
  is_moving (running.Over reported) = false

  -- it was aborted
  abbrev pub is_aborted_in : SideTransfer R K → Bool
  is_aborted_in running.Nothing = false
  is_aborted_in (running.Awaited port job since) = false
  is_aborted_in (running.Connecting outgoing job since) = false
  is_aborted_in (running.Moving connection is_aborted) = is_aborted
  is_aborted_in (running.Over reported) = false

  -- only of an aborted transfer was a lane asked to stop it
  abbrev pub is_marked : SideTransfer R K → Ticket R K → Bool
  is_marked run view = not (has_asked view) || is_aborted_in run

  -- lanes have the transfer, or it is over since there was no memory for it
  abbrev pub IsHandedOver : Job Global R K → SideTransfer R K → Type 0
  IsHandedOver job running.Nothing = ⊥
  IsHandedOver job (running.Awaited port waiting since) = ⊥
  IsHandedOver job (running.Connecting outgoing waiting since) = ⊥
  IsHandedOver job (running.Moving connection is_aborted) = is_aborted ≡ false
  IsHandedOver job (running.Over reported) = running.Over reported ≡ over NoMemory job

  -- it is over since there was no memory or no connection for it; the sink of an upload comes back
  abbrev pub IsUnbegun : Job Global R K → TransferEnd K → Type 0
  IsUnbegun job reported =
      ((reported.end ≡ NoMemory) ⊎ (reported.end ≡ NoConnection)) × (reported.sink ≡ sink_in job)
      × (reported.moved ≡ 0)

  -- the same job waits at the same port since the same moment, and not too long, or it was handed
  -- over, or no client came in time
  abbrev pub IsAwaited : LeasedPort → Job Global R K → ℕ → ℕ → SideTransfer R K → Type 0
  IsAwaited port job since now running.Nothing = ⊥
  IsAwaited port job since now (running.Awaited at waiting moment) =
      (at ≡ port) × (waiting ≡ job) × (moment ≡ since)
      × (¬ (since + client_time < now))
  IsAwaited port job since now (running.Connecting outgoing waiting moment) = ⊥
  IsAwaited port job since now (running.Moving connection is_aborted) = is_aborted ≡ false
  IsAwaited port job since now (running.Over reported) =
      IsUnbegun job reported × (reported.end ≡ NoConnection → since + client_time < now)

  -- the same job waits for the client's port since the same moment, and not too long, or it was
  -- handed over, or there was no connection in time
  abbrev pub IsConnecting : Job Global R K → ℕ → ℕ → SideTransfer R K → Type 0
  IsConnecting job since now running.Nothing = ⊥
  IsConnecting job since now (running.Awaited port waiting moment) = ⊥
  IsConnecting job since now (running.Connecting outgoing waiting moment) =
      (waiting ≡ job) × (moment ≡ since) × (¬ (since + answer_time < now))
  IsConnecting job since now (running.Moving connection is_aborted) = is_aborted ≡ false
  IsConnecting job since now (running.Over reported) = IsUnbegun job reported

  -- a transfer over what was prepared, from this moment on; over nothing it ends at once
  abbrev pub Starts : Preparation → Job Global R K → ℕ → SideTransfer R K → Type 0
  Starts prepared.Nothing job now new = new ≡ over NoConnection job
  Starts (prepared.Target to) job now new = IsConnecting job now now new
  Starts (prepared.Listening port) job now new = IsAwaited port job now now new

  -- A transfer on a ticket is taken back if no lane has begun it: then it is over, and its sink
  -- comes back. Otherwise it is marked, and its lane is asked to stop, unless it has ended.
  abbrev pub Stops : Ticket R K → DataConnection → SideTransfer R K → Ticket R K → Type 0
  Stops view connection new view' =
      ((job : LaneJob (Served Global R) K DataConnection) × (tries : ℕ)
      × (view ≡ Busy job false false tries) × (new ≡ taken_back job) × (view' ≡ Idle))
      ⊎ ((new ≡ running.Moving connection true)
      × ((view' ≡ asking (begun view)) ⊎ (view' ≡ tried (begun view))))

  -- a transfer without a connection ends at once, as does one that no lane has begun; one that a
  -- lane runs is marked
  abbrev pub Aborts : Ticket R K → SideTransfer R K → SideTransfer R K → Type 0
  Aborts view running.Nothing new = new ≡ running.Nothing
  Aborts view (running.Awaited port job since) new = new ≡ over Aborted job
  Aborts view (running.Connecting outgoing job since) new = new ≡ over Aborted job
  Aborts view (running.Moving connection is_aborted) new =
      (view' : Ticket R K) × Stops view connection new view'
  Aborts view (running.Over reported) new = new ≡ running.Over reported

  -- only a transfer without a connection goes on by itself
  abbrev pub GoesOn : ℕ → SideTransfer R K → SideTransfer R K → Type 0
  GoesOn now (running.Awaited port job since) new =
      IsAwaited port job since now new
  GoesOn now (running.Connecting outgoing job since) new = IsConnecting job since now new
  GoesOn now running.Nothing new = new ≡ running.Nothing
  GoesOn now (running.Moving connection is_aborted) new = new ≡ running.Moving connection is_aborted
  GoesOn now (running.Over reported) new = new ≡ running.Over reported

  -- The end of a transfer on the ticket is Aborted exactly if it was aborted. The sink of an upload
  -- comes back, unless there was no memory to begin it.
  abbrev pub IsEndOf : Ticket R K → Bool → TransferEnd K → Type 0
  IsEndOf view is_aborted reported =
      (is_aborted ≡ true → reported.end ≡ Aborted) × (reported.end ≡ Aborted → is_aborted ≡ true)
      × (is_aborted ≡ false → HasSinkOf (has_upload view) reported)

  -- the port that a client is awaited at
  abbrev pub port_of : SideTransfer R K → Option LeasedPort
  port_of running.Nothing = None
  port_of (running.Awaited port job since) = Some port
  port_of (running.Connecting outgoing job since) = None
  port_of (running.Moving connection is_aborted) = None
  port_of (running.Over reported) = None

  -- the report of a lane on a transfer on the ticket
  abbrev pub IsReported : Ticket R K → Bool → TransferEnd K → Type 0
  IsReported view is_aborted reported =
      (reported.end ≡ Aborted → is_aborted ≡ true) × HasSinkOf (has_upload view) reported

  -- an end is taken as it is known to the session, or as a lane reports it
  abbrev pub Takes : Ticket R K → SideTransfer R K → Taken K → SideTransfer R K → Type 0
  Takes view running.Nothing found new = (found ≡ taken.Nothing) × (new ≡ running.Nothing)
  Takes view (running.Awaited port job since) found new =
      (found ≡ taken.Nothing) × (new ≡ running.Awaited port job since)
  Takes view (running.Connecting outgoing job since) found new =
      (found ≡ taken.Nothing) × (new ≡ running.Connecting outgoing job since)
  Takes view (running.Moving connection is_aborted) taken.Nothing new =
      new ≡ running.Moving connection is_aborted
  Takes view (running.Moving connection is_aborted) (taken.Unbegun reported) new = ⊥
  Takes view (running.Moving connection is_aborted) (taken.Reported reported aborted fault) new =
      (new ≡ running.Nothing) × (aborted ≡ is_aborted) × IsReported view is_aborted reported
  Takes view (running.Over reported) found new =
      (found ≡ taken.Unbegun reported) × (new ≡ running.Nothing)

  -- an end is taken once, and then nothing runs
  abbrev pub TakesEnd
      : Ticket R K → SideTransfer R K → Option (TransferEnd K) → SideTransfer R K → Type 0
  TakesEnd view running.Nothing end new = (end ≡ None) × (new ≡ running.Nothing)
  TakesEnd view (running.Awaited port job since) end new =
      (end ≡ None) × (new ≡ running.Awaited port job since)
  TakesEnd view (running.Connecting outgoing job since) end new =
      (end ≡ None) × (new ≡ running.Connecting outgoing job since)
  TakesEnd view (running.Moving connection is_aborted) None new =
      new ≡ running.Moving connection is_aborted
  TakesEnd view (running.Moving connection is_aborted) (Some end) new =
      (new ≡ running.Nothing) × IsEndOf view is_aborted end
  TakesEnd view (running.Over reported) end new = (end ≡ Some reported) × (new ≡ running.Nothing)

  -- a look at a moment: the transfer goes on, and its end is taken, with the octets that it had
  -- moved; what was on the ticket before stays there
  abbrev pub Looks
      : Ticket R K → ℕ → SideTransfer R K → Option (Input Global K) → SideTransfer R K → ℕ → Type 0
  Looks before now old event new moved =
      (mid : SideTransfer R K) × (end : Option (TransferEnd K)) × (view : Ticket R K)
      × (is_moving old ≡ true → view ≡ before) × GoesOn now old mid × TakesEnd view mid end new
      × (event ≡ event_of end) × IsMovedBy end moved

  -- The report of a transfer that is waited for, or of nothing if nothing runs, with the octets
  -- that it had moved. One without a connection is aborted.
  abbrev pub Settles : SideTransfer R K → Option (Input Global K) → ℕ → Type 0
  Settles running.Nothing event moved = event ≡ None
  Settles (running.Awaited port job since) event moved =
      (event ≡ Some (TransferEnded Aborted (sink_in job))) × (moved ≡ 0)
  Settles (running.Connecting outgoing job since) event moved =
      (event ≡ Some (TransferEnded Aborted (sink_in job))) × (moved ≡ 0)
  Settles (running.Moving connection is_aborted) event moved =
      (end : TransferEnd K) × (event ≡ Some (TransferEnded end.end end.sink)) × (moved ≡ end.moved)
      × (IsTrue is_aborted → end.end ≡ Aborted)
  Settles (running.Over reported) event moved =
      (event ≡ Some (TransferEnded reported.end reported.sink)) × (moved ≡ reported.moved)

  -- a session looks at its data side if there is something to report, and otherwise reads its
  -- client; either of a moving transfer
  abbrev pub RestsOn : SideTransfer R K → Beside → Type 0
  RestsOn running.Nothing next = next ≡ Read
  RestsOn (running.Awaited port job since) next = next ≡ Read
  RestsOn (running.Connecting outgoing job since) next = next ≡ Read
  RestsOn (running.Moving connection is_aborted) next = ⊤
  RestsOn (running.Over reported) next = next ≡ Look

  -- it waits for its end, for its client's connection, or for the answer of its client's port
  abbrev pub is_awaiting : SideTransfer R K → Bool
  is_awaiting running.Nothing = false
  is_awaiting (running.Awaited port job since) = true
  is_awaiting (running.Connecting outgoing job since) = true
  is_awaiting (running.Moving connection is_aborted) = true
  is_awaiting (running.Over reported) = false

  -- the same; any of a transfer that waits
  abbrev pub RestsBeside : SideTransfer R K → Beside → Type 0
  RestsBeside run next = (is_awaiting run ≡ true) ⊎ RestsOn run next
