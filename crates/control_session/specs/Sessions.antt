-- A whole control session, from its greeting to its close, however it ends.
use Rattle.std.specs.Prelude.{ℕ, ◌≡◌, ◌⊎◌, ◌≤◌, List, [], ◌++◌, false, true, Option, Some, None, Result, IfErr, OnOk, OnErr, IsErrOf}
use Rattle.authorizer.specs.Users.{Users}
use Rattle.control_session.specs.Sides.{Given}
use Rattle.ftp_wire.specs.Reading.{OnlyReadsAs}
use Rattle.rate_floors.specs.Promises.{Promises}
use Rattle.session_table.specs.Steps.{Standing}
use Rattle.session_table.specs.Plans.Plan.{Then}
use Rattle.session_table.specs.StateRows.{greeting}
use Rattle.session_table.specs.Views.{fresh, is_closed}
use Rattle.session_table.specs.declared.actions.Action.{Action}
use Rattle.session_table.specs.declared.settings.Settings.{Settings}
use Rattle.control_session.specs.Calls.{Chain, HostCall}
use Rattle.control_session.specs.Rows.{Outcome}
use Rattle.control_session.specs.Standing.{AllTaken, Closing}
use Rattle.control_session.specs.Turns.{Carries, Heard, Situation, Went, WhileOpen, at}
use Rattle.control_session.specs.declared.turn_fault.TurnFault.{TurnFault}
use Rattle.control_session.specs.declared.turn_fault.TurnFault.TheVariants as turn
use Rattle.control_session.specs.declared.fault.ControlFault.{ControlFault}
use Rattle.control_session.specs.declared.fault.ControlFault.TheVariants.{ReadFault, WriteFault, Memory}

-- a new session, of a client at this address
abbrev pub new_session : {A : Type 0} → Settings A → List ℕ → Standing
new_session settings peer = record { view = fresh settings peer; held = [] }

-- nothing was heard yet
abbrev pub nothing : Heard
nothing =
    record { octets = []; items = []; reads = 0; ended = false; failed = false; asked = false }

-- the fault of a session after a fault of a turn
abbrev pub fault_of : TurnFault → ControlFault
fault_of turn.Write = WriteFault
fault_of turn.Memory = Memory

-- a session breaks off with WriteFault only if a reply could not be written
abbrev pub IsLostTo : Option TurnFault → ControlFault → Type 0
IsLostTo lost WriteFault = lost ≡ Some turn.Write
IsLostTo lost ReadFault = Unit {0}
IsLostTo lost Memory = Unit {0}

-- Row is the relation of rows, Does the effect of each call on the host; the session may make
-- `turns` reads.
module _ {H A S R K T : Type 0}
    (Row : Users → Standing → Given K → ℕ → S → S → Promises → Outcome A R K → Type 0)
    (Does : H → HostCall A S R K → H → Type 0)
    (turns : ℕ) (result : Result T ControlFault) (session : Standing) (host host' : H) where
  -- The greeting is written; then there are moves, each with its calls of the host, in this order,
  -- none of which closes the session, up to the last situation; then the end, in which it is
  -- closed.
  pub record IsSession : Type 0 where
    pub actions : List (Action A R K)
    pub said : List (HostCall A S R K)
    pub lost : Option TurnFault
    pub mid : H
    pub turned : H
    pub stood : Situation K
    pub last : Situation K
    pub row : Then session.view actions ≡ greeting session.view
    pub greets : Carries actions None said lost
    pub greeted : Chain Does host said mid
    pub went : Went (WhileOpen Row) Does mid (at session None [] nothing [] false lost)
        turned stood
    pub closing : Closing Row Does turned stood host' last
    -- the session is closed, the events of the data side were given to it, and each floor was
    -- released
    pub closed_then : is_closed last.session.view.stage ≡ true
    pub answered : last.came ≡ None
    pub paid : last.owed ≡ []
    -- the octets heard read as the lines that were found; after a fault more octets may follow them
    pub heard : OnOk result (OnlyReadsAs last.heard.octets last.heard.items)
    pub cut : OnErr result ((fed unfed : List ℕ) × (last.heard.octets ≡ fed ++ unfed)
        × OnlyReadsAs fed last.heard.items)
    -- all lines were taken, up to one that closed the control connection or to the end
    pub all : OnOk result ((last.closed ≡ true)
        ⊎ ((last.heard.ended ≡ true) × AllTaken last.taken last.heard))
    -- each reply was written, and memory ran out for no step
    pub whole : OnOk result (last.lost ≡ None)
    pub reads : last.heard.reads ≤ turns
    pub read_fault : IsErrOf result ReadFault → (last.heard.failed ≡ true)
        ⊎ (last.heard.reads ≡ turns)
    pub lost_to : IfErr result (IsLostTo last.lost)

  -- there was no memory to begin, and no call of the host was made
  abbrev pub IsUnserved : Type 0
  IsUnserved = IsErrOf result Memory × (host' ≡ host)

  abbrev pub IsServed : Type 0
  IsServed = IsUnserved ⊎ IsSession
