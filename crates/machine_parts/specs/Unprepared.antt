-- The reasons for which a server does not start: the fault of each, and what it names.
use Rattle.std.specs.Prelude.{◌≡◌, ℕ, List, Option, Some, None, MatchOption, string_bytes}
use Rattle.ftpd_program.specs.declared.server.ServeFault.{ServeFault}
use Rattle.ftpd_program.specs.declared.server.ServeFault.TheVariants as fault
use Rattle.ftpd_program.specs.declared.start.StartFault.{StartFault}
use Rattle.ftpd_program.specs.declared.start.StartFault.TheVariants.{DrainFileThere, DrainFileUnseen, EndFileThere, EndFileUnseen, Folder, InputAgain, NoSessions, NoStatus, NoTransferLog, NothingDrains, OnePath, ReadyFileThere, ReadyFileUnmade, ReloadFileThere, ReloadFileUnseen, StatusPortTaken, StatusUnwritten, StopFileThere, StopFileUnseen, TransferLogUnopened, UnknownForm}
use Rattle.machine_parts.specs.declared.starting.Sign.{Sign}
use Rattle.machine_parts.specs.declared.starting.Sign.TheVariants.{Stop, Drain, Reload, End}
use Rattle.machine_parts.specs.declared.stated_options.Unprepared.{Unprepared}

-- the fault of a reason
abbrev pub fault_of : StartFault → ServeFault
fault_of (Folder path reason) = fault.Store
fault_of (StopFileThere path) = fault.Stopped
fault_of (StopFileUnseen path reason) = fault.Stopped
fault_of (DrainFileThere path) = fault.Stopped
fault_of (DrainFileUnseen path reason) = fault.Stopped
fault_of (ReloadFileThere path) = fault.ReloadFile
fault_of (ReloadFileUnseen path reason) = fault.ReloadFile
fault_of InputAgain = fault.ReloadFile
fault_of (EndFileThere path) = fault.EndFile
fault_of (EndFileUnseen path reason) = fault.EndFile
fault_of (ReadyFileThere path) = fault.ReadyFile
fault_of (ReadyFileUnmade path reason) = fault.ReadyFile
fault_of (OnePath path) = fault.OnePath
fault_of (NoTransferLog path) = fault.TransferLog
fault_of (TransferLogUnopened path reason) = fault.TransferLog
fault_of (NoStatus path) = fault.StatusFile
fault_of (StatusUnwritten path reason) = fault.StatusFile
fault_of (StatusPortTaken port reason) = fault.StatusPort
fault_of (NoSessions word) = fault.UserSessions
fault_of NothingDrains = fault.DrainSeconds
fault_of (UnknownForm word) = fault.LogForm

-- that of a sign which could not be noticed
abbrev pub fault_of_sign : Sign → ServeFault
fault_of_sign Stop = fault.Stopped
fault_of_sign Drain = fault.Stopped
fault_of_sign Reload = fault.ReloadFile
fault_of_sign End = fault.EndFile

-- the path or the word that a reason names, if it names one
abbrev pub named_by : StartFault → Option (List ℕ)
named_by (Folder path reason) = Some (string_bytes path)
named_by (StopFileThere path) = Some (string_bytes path)
named_by (StopFileUnseen path reason) = Some (string_bytes path)
named_by (DrainFileThere path) = Some (string_bytes path)
named_by (DrainFileUnseen path reason) = Some (string_bytes path)
named_by (ReloadFileThere path) = Some (string_bytes path)
named_by (ReloadFileUnseen path reason) = Some (string_bytes path)
named_by InputAgain = None
named_by (EndFileThere path) = Some (string_bytes path)
named_by (EndFileUnseen path reason) = Some (string_bytes path)
named_by (ReadyFileThere path) = Some (string_bytes path)
named_by (ReadyFileUnmade path reason) = Some (string_bytes path)
named_by (OnePath path) = Some (string_bytes path)
named_by (NoTransferLog path) = Some (string_bytes path)
named_by (TransferLogUnopened path reason) = Some (string_bytes path)
named_by (NoStatus path) = Some (string_bytes path)
named_by (StatusUnwritten path reason) = Some (string_bytes path)
named_by (StatusPortTaken port reason) = None
named_by (NoSessions word) = Some (string_bytes word)
named_by NothingDrains = None
named_by (UnknownForm word) = Some (string_bytes word)

-- a start that is refused has the fault of its reason; without one, memory ran out
abbrev pub HasItsFault : Unprepared → Type 0
HasItsFault refused =
    MatchOption refused.start (refused.fault ≡ fault.Memory)
    (λ reason. refused.fault ≡ fault_of reason)
