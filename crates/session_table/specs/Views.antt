-- The state of a session.
use Rattle.std.specs.Prelude.{ℕ, ◌&&◌, Bool, true, false, not, List, [], Option, Some, None, is_some}
use Rattle.ftp_terms.specs.declared.data_type.DataType.{DataType}
use Rattle.ftp_terms.specs.declared.data_type.DataType.TheVariants.{Ascii}
use Rattle.ftp_terms.specs.declared.facts.Facts.{Facts}
use Rattle.ftp_terms.specs.LineText.{text_of}
use Rattle.virtual_path.specs.Path.{Path}
use Rattle.session_table.specs.declared.settings.Settings.{Settings}
use Rattle.session_table.specs.declared.stages.Control.{Control}
use Rattle.session_table.specs.declared.stages.Control.TheVariants.{Open, Closing}
use Rattle.session_table.specs.declared.stages.TransferContent.{TransferContent}
use Rattle.session_table.specs.declared.stages.Passive.{Passive}
use Rattle.session_table.specs.declared.stages.Stage.{Stage}
use Rattle.session_table.specs.declared.stages.Stage.TheVariants as stage
use Rattle.session_table.specs.declared.stages.Work.{Work}
use Rattle.session_table.specs.declared.stages.Work.TheVariants.{Idle, AwaitsPort, Transfers, Aborted}

pub record View : Type 0 where
  -- settings of the server
  pub banner : List ℕ
  pub permits_foreign_addresses : Bool
  pub permits_privileged_ports : Bool
  pub address : List ℕ
  -- the client's address
  pub peer : List ℕ
  pub stage : Stage
  pub control : Control
  -- the user, and the number that the user had at the login
  pub name : List ℕ
  pub number : ℕ
  -- number of further wrong passwords that close the control connection
  pub attempts_left : ℕ
  pub cwd : Path
  pub data_type : DataType
  pub offset : ℕ
  -- the facts of a listing that are in force
  pub facts : Facts
  -- EPSV ALL is in force
  pub only_extended : Bool
  -- a data connection is prepared
  pub prepared : Bool
  -- the store's path that RNFR named
  pub source : Option Path
  pub work : Work Path

abbrev pub all_facts : Facts
all_facts = record { kind = true; size = true; modify = true; perm = true }

abbrev pub is_inside : Stage → Bool
is_inside stage.Inside = true
is_inside _ = false

abbrev pub is_closed : Stage → Bool
is_closed stage.Closed = true
is_closed _ = false

-- an aborted transfer counts as none
abbrev pub has_transfer : Work Path → Bool
has_transfer (Transfers content) = true
has_transfer _ = false

-- the command that awaits a passive port
abbrev pub awaited : Work Path → Option Passive
awaited (AwaitsPort passive) = Some passive
awaited _ = None

-- the content of a transfer that has not ended
abbrev pub running : Work Path → Option (TransferContent Path)
running (Transfers content) = Some content
running (Aborted content) = Some content
running _ = None

abbrev pub is_aborted : Work Path → Bool
is_aborted (Aborted content) = true
is_aborted _ = false

-- a transfer that runs is aborted
abbrev pub aborted : Work Path → Work Path
aborted (Transfers content) = Aborted content
aborted work = work

-- a transfer has not ended
abbrev pub runs : Work Path → Bool
runs work = is_some (running work)

-- a transfer runs, or a passive port is awaited
abbrev pub is_busy : Work Path → Bool
is_busy Idle = false
is_busy _ = true

abbrev pub is_open : Control → Bool
is_open Open = true
is_open _ = false

abbrev pub is_closing : Control → Bool
is_closing Closing = true
is_closing _ = false

-- lines count while the control connection is open
abbrev pub counts_lines : View → Bool
counts_lines view = not (is_closed view.stage) && is_open view.control

-- lines are served in their turn while nothing is begun
abbrev pub serves_lines : View → Bool
serves_lines view = counts_lines view && not (is_busy view.work)

-- ports count for a QUIT that waits too
abbrev pub awaits_ports : View → Bool
awaits_ports view = not (is_closed view.stage) && not (is_closing view.control)

-- the parameters of a new client: those of RFC 959, section 5.1, except that data are never sent
-- unprepared
abbrev pub anew : View → View
anew view =
    record view {
      cwd = [];
      data_type = Ascii;
      offset = 0;
      facts = all_facts;
      only_extended = false;
      prepared = false;
    }

-- a new session of a client at this address
abbrev pub fresh : {A : Type 0} → Settings A → List ℕ → View
fresh settings peer = record {
  banner = text_of settings.banner;
  permits_foreign_addresses = settings.permits_foreign_addresses;
  permits_privileged_ports = settings.permits_privileged_ports;
  address = settings.address;
  peer = peer;
  stage = stage.Greeted;
  control = Open;
  name = [];
  number = 0;
  attempts_left = settings.login_attempts;
  cwd = [];
  data_type = Ascii;
  offset = 0;
  facts = all_facts;
  only_extended = false;
  prepared = false;
  source = None;
  work = Idle;
}
