-- The clock and the data side of a session without sockets, and the whole session.
use Rattle.std.specs.Prelude.{ℕ, ◌≡◌, List, [], ◌∷◌, Option, Some, None, Result}
use Rattle.std.specs.declared.alloc.Global.{Global}
use Rattle.authorizer.specs.Users.{Users}
use Rattle.memory_store.specs.InMemory.{Memory, InMemory, Upload}
use Rattle.rate_floors.specs.Promises.{Promises}
use Rattle.session_table.specs.declared.inputs.Input.{Input}
use Rattle.session_table.specs.declared.inputs.Input.TheVariants.{DataReady, TransferEnded}
use Rattle.session_host.specs.Alone.{Parts}
use Rattle.session_host.specs.ControlFault.{ControlFault}
use Rattle.session_host.specs.Rows.{IsRow}
use Rattle.session_host.specs.Sessions.{new_session}
use Rattle.session_host.specs.Sides.{SideCall, came_of}
use Rattle.session_host.specs.Sides.SideCall.{Opens, Connects, Drops, Starts, Aborts, Looks, Settles}
use Rattle.session_host.specs.Silent.{StaysSilent}
use Rattle.session_host.specs.Reported.{IsReported}
use Rattle.session_host.specs.declared.silent.Silent.{Silent}
use Rattle.session_table.specs.declared.actions.Job.{Job}
use Rattle.session_table.specs.declared.actions.Job.TheVariants.{Text, SendFile, TakeFile}
use Rattle.session_table.specs.declared.inputs.End.{End}
use Rattle.session_table.specs.declared.inputs.End.TheVariants.{Done, Lost, Local, Full, NoConnection, NoMemory, Aborted}
use Rattle.session_table.specs.declared.settings.Settings.{Settings}
use Rattle.script_session.specs.declared.side.ScriptSide.{ScriptSide}
use Rattle.script_session.specs.declared.side.ZeroClock.{ZeroClock}

-- the clock always shows 0
abbrev pub ReadsZero : ZeroClock → ℕ → ZeroClock → Type 0
ReadsZero old moment new = (moment ≡ 0) × (new ≡ old)

-- a file was read to its end, or its store could not read on
abbrev pub IsSent : End → Type 0
IsSent Done = Unit {0}
IsSent Local = Unit {0}
IsSent NoMemory = Unit {0}
IsSent Lost = ⊥
IsSent Full = ⊥
IsSent NoConnection = ⊥
IsSent Aborted = ⊥

-- the end of a transfer: a text is sent, a file is read, and an upload brings nothing
abbrev pub EndsScript : {A R K : Type 0} → Job A R K → Input A K → Type 0
EndsScript (Text octets) event = event ≡ TransferEnded Done None
EndsScript (SendFile source form) event =
    (end : End) × IsSent end × (event ≡ TransferEnded end None)
EndsScript (TakeFile file form) event = event ≡ TransferEnded Done (Some file)

-- the port is the same each time, a transfer ends as it begins, and an event waits until the side
-- is asked for it
abbrev pub AnswersScript : {A R K : Type 0} → ScriptSide A K → SideCall A R K → ScriptSide A K
    → Type 0
AnswersScript old Opens new = new ≡ record old { came = Some (DataReady (Some old.port)) }
AnswersScript old (Connects to) new = new ≡ old
AnswersScript old Drops new = new ≡ old
AnswersScript {A = A} {K = K} old (Starts job) new =
    (event : Input A K) × EndsScript job event × (new ≡ record old { came = Some event })
AnswersScript old Aborts new = new ≡ old
AnswersScript old (Looks event) new =
    (event ≡ came_of old.came) × (new ≡ record old { came = None })
AnswersScript old (Settles event) new =
    (event ≡ came_of old.came) × (new ≡ record old { came = None })

-- the client of a script
abbrev pub home_address : List ℕ
home_address = 127 ∷ 0 ∷ 0 ∷ 1 ∷ []

-- the parts of a script's session: a store, floors, a data side and two ends, beside the clock and
-- a handler without effect
abbrev pub script_parts : {R W : Type 0} → Memory → Promises → ScriptSide Global Upload → R → W
    → Parts Memory ZeroClock (ScriptSide Global Upload) R W Silent
script_parts store promises side reader writer =
    record {
      store = store;
      promises = promises;
      clock = record {};
      side = side;
      reader = reader;
      writer = writer;
      hooks = record {};
    }

-- a data side with this port, before its first call
abbrev pub unasked : ℕ → ScriptSide Global Upload
unasked port = record { port = port; came = None }

-- these octets, or unknown octets
abbrev pub as_known : Option (List ℕ) → Option (List ℕ)
as_known octets = octets

-- A whole session of a script, end to end: left and left' are the octets left to read, out and out'
-- those written, before and after. The floors are the same at the end.
pub record IsScript {T : Type 0} (users : Users) (settings : Settings Global) (port : ℕ)
    (promises : Promises) (store store' : Memory) (left left' out out' : Option (List ℕ))
    (result : Result T ControlFault) : Type 0 where
  pub side : ScriptSide Global Upload
  pub reported : IsReported {A = Global} {Q = List ℕ} (IsRow InMemory users) ReadsZero AnswersScript
      StaysSilent as_known as_known
      result (new_session settings home_address)
      (script_parts store promises (unasked port) left out)
      (script_parts store' promises side left' out')
