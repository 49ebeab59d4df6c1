-- The calls of a data side, with their answers, and the inputs of a session.
use Rattle.std.specs.Prelude.{ℕ, ◌≡◌, Bool, true, false, Option, Some, None, IfSome}
use Rattle.ftp_wire.specs.Items.{Item}
use Rattle.ftp_wire.specs.Reading.{item_of}
use Rattle.ftp_wire.specs.declared.commands.HostPort.{HostPort}
use Rattle.session_table.specs.declared.actions.Job.{Job}
use Rattle.session_core.specs.Events.{is_event}
use Rattle.session_table.specs.declared.inputs.End.{End}
use Rattle.session_table.specs.declared.inputs.Input.{Input}
use Rattle.session_table.specs.declared.inputs.Input.TheVariants as input

-- an event: a passive port, if one was free; or the end of a transfer, with the sink that comes
-- back
pub data SideEvent (K : Type 0) : Type 0 where
  Ready : Option ℕ → SideEvent K
  Ended : End → Option K → SideEvent K

-- one call with its answer; R is the type of the store's sources, K of its sinks, A of allocators
pub data SideCall (A R K : Type 0) : Type 0 where
  Opens : SideCall A R K
  Connects : HostPort → SideCall A R K
  Drops : SideCall A R K
  Starts : Job A R K → SideCall A R K
  Aborts : SideCall A R K
  -- the event that has come, if any
  Looks : Option (SideEvent K) → SideCall A R K
  -- the end of the transfer that still ran, if any
  Settles : Option (SideEvent K) → SideCall A R K

-- an input; for a line, the item that it reads as
pub data Given (K : Type 0) : Type 0 where
  Line : Item → Given K
  Held : Given K
  Came : SideEvent K → Given K
  Closed : Given K

abbrev pub given_of : {A K : Type 0} → Input A K → Given K
given_of (input.Line item) = Line (item_of item)
given_of input.Held = Held
given_of (input.TransferEnded end sink) = Came (Ended end sink)
given_of (input.DataReady port) = Came (Ready port)
given_of input.Closed = Closed

-- a line, new or held
abbrev pub is_line : {K : Type 0} → Given K → Bool
is_line (Line item) = true
is_line Held = true
is_line (Came event) = false
is_line Closed = false

-- the event of the data side in an input, if it is one
abbrev pub event_in : {A K : Type 0} → Input A K → Option (SideEvent K)
event_in (input.Line item) = None
event_in input.Held = None
event_in (input.TransferEnded end sink) = Some (Ended end sink)
event_in (input.DataReady port) = Some (Ready port)
event_in input.Closed = None

-- the event that came, if any
abbrev pub came_of : {A K : Type 0} → Option (Input A K) → Option (SideEvent K)
came_of None = None
came_of (Some came) = event_in came

-- an input that came, if any, is an event of the data side
abbrev pub OnlyEvents : {A K : Type 0} → Option (Input A K) → Type 0
OnlyEvents came = IfSome came (λ input. is_event input ≡ true)

-- the part of an input that is returned if memory ran out for its step: an event of the data side
abbrev pub back_in : {A K : Type 0} → Input A K → Option (Input A K)
back_in (input.Line item) = None
back_in input.Held = None
back_in (input.TransferEnded end sink) = Some (input.TransferEnded end sink)
back_in (input.DataReady port) = Some (input.DataReady port)
back_in input.Closed = None
