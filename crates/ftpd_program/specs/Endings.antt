-- The endings of the program.
use Rattle.std.specs.Prelude.{ℕ}
use Rattle.script_session.specs.declared.fault.SessionFault.TheVariants.{Control, Folder}
use Rattle.sheets_program.specs.Endings as common
use Rattle.sheets_program.specs.declared.ending.Exit.{Exit as CommonExit}
use Rattle.ftpd_program.specs.declared.ending.FtpdExit.{FtpdExit}
use Rattle.ftpd_program.specs.declared.ending.FtpdExit.TheVariants.{Common, Config, ConfigOf, NoReload, Transfers, Session, Server, Status, Watches, AddsUp}

abbrev pub status_of : FtpdExit → ℕ
status_of (Common ending) = common.status_of ending
status_of (Config file fault) = 1
status_of (ConfigOf file fault) = 1
status_of NoReload = 1
status_of (Transfers name reported) = 1
status_of (Session fault) = 1
status_of (Server fault) = 1
status_of (Status file fault) = 1
status_of (Watches status rows) = 0
status_of AddsUp = 0

-- nothing was written: the command line, the configuration or the status is refused, or there is a
-- fault other than that of the output; but a session that broke off may have written some replies,
-- and a server its messages
abbrev pub IsUnwritten : FtpdExit → Type 0
IsUnwritten (Common ending) = common.IsUnwritten ending
IsUnwritten (Config file fault) = Unit {0}
IsUnwritten (ConfigOf file fault) = Unit {0}
IsUnwritten NoReload = ⊥
IsUnwritten (Transfers name reported) = Unit {0}
IsUnwritten (Session Folder) = Unit {0}
IsUnwritten (Session (Control why)) = ⊥
IsUnwritten (Server fault) = ⊥
IsUnwritten (Status file fault) = Unit {0}
IsUnwritten (Watches status rows) = ⊥
IsUnwritten AddsUp = Unit {0}

-- an ending that any command may have, with that property
abbrev pub IsCommon : (CommonExit → Type 0) → FtpdExit → Type 0
IsCommon P (Common ending) = P ending
IsCommon P (Config file fault) = ⊥
IsCommon P (ConfigOf file fault) = ⊥
IsCommon P NoReload = ⊥
IsCommon P (Transfers name reported) = ⊥
IsCommon P (Session fault) = ⊥
IsCommon P (Server fault) = ⊥
IsCommon P (Status file fault) = ⊥
IsCommon P (Watches status rows) = ⊥
IsCommon P AddsUp = ⊥
