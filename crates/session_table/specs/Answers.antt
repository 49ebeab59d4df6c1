-- The replies: those with a fixed text by their codes and texts (RFC 959, section 4.2.1).
use Rattle.std.specs.Prelude.{ℕ, List, codes}
use Rattle.ftp_reply.specs.Replies.{ReplyForm, OneLine}
use Rattle.ftp_terms.specs.declared.data_type.DataType.TheVariants.{Ascii, Image}
use Rattle.ftp_wire.specs.Faults.{fault_reply}
use Rattle.virtual_path.specs.declared.fault.PathFault.{PathFault}
use Rattle.virtual_path.specs.declared.fault.PathFault.TheVariants as path
use Rattle.virtual_tree.specs.declared.fault.StoreFault.{StoreFault}
use Rattle.virtual_tree.specs.declared.fault.StoreFault.TheVariants as store
use Rattle.session_table.specs.declared.answers.Answer.{Answer}
use Rattle.session_table.specs.declared.answers.Answer.TheVariants as answer
use Rattle.session_table.specs.declared.notices.Notice.{Notice}
use Rattle.session_table.specs.declared.notices.Notice.TheVariants as notice
use Rattle.session_table.specs.declared.refusals.Refusal.{Refusal}
use Rattle.session_table.specs.declared.refusals.Refusal.TheVariants as refusal

-- success, or a next step
abbrev pub notice_row : Notice → ℕ × List ℕ
notice_row notice.Opening = (150, codes "Opening data connection")
notice_row notice.Fine = (200, codes "OK")
notice_row notice.Utf8IsOn = (200, codes "UTF8 is on")
notice_row notice.NoFactsInForce = (200, codes "MLST OPTS")
notice_row (notice.TypeIs Ascii) = (200, codes "Type is A")
notice_row (notice.TypeIs Image) = (200, codes "Type is I")
notice_row notice.ModeIsStream = (200, codes "Mode is S")
notice_row notice.StructureIsFile = (200, codes "Structure is F")
notice_row notice.OnlyExtended = (200, codes "EPSV ALL is in force")
notice_row notice.NoAllocation = (202, codes "No storage allocation needed")
notice_row notice.TransferInProgress = (211, codes "Transfer in progress")
notice_row notice.NoTransfer = (211, codes "No transfer")
notice_row notice.Standards = (214, codes "See RFC 959, RFC 2428 and RFC 3659")
notice_row notice.System = (215, codes "UNIX Type: L8")
notice_row notice.Goodbye = (221, codes "Goodbye")
notice_row notice.NothingToAbort = (225, codes "No transfer")
notice_row notice.TransferComplete = (226, codes "Transfer complete")
notice_row notice.AbortDone = (226, codes "Abort done")
notice_row notice.DirectoryChanged = (250, codes "Directory changed")
notice_row notice.DirectoryRemoved = (250, codes "Directory removed")
notice_row notice.FileRemoved = (250, codes "File removed")
notice_row notice.Renamed = (250, codes "Renamed")
notice_row notice.PasswordRequired = (331, codes "Password required")
notice_row notice.SendRnto = (350, codes "Send RNTO")

-- a refusal of the store
abbrev pub store_row : StoreFault → ℕ × List ℕ
store_row store.NotFound = (550, codes "No such file or directory")
store_row store.NotDir = (550, codes "Not a directory")
store_row store.IsDir = (550, codes "Is a directory")
store_row store.Exists = (550, codes "Already exists")
store_row store.NotEmpty = (550, codes "Directory not empty")
store_row store.Full = (552, codes "Storage is full")
store_row store.Device = (451, codes "Local fault")
store_row store.Memory = (451, codes "Out of memory")
store_row store.PastEnd = (550, codes "Offset past the end")
store_row store.Inside = (550, codes "Not possible inside itself")

-- a text that is no path; lack of memory is no reply of the table
abbrev pub path_row : PathFault → ℕ × List ℕ
path_row path.BadName = (553, codes "Bad name")
path_row path.TooLong = (553, codes "Name too long")
path_row path.Memory = (451, codes "Out of memory")

-- a failure of a line or of a transfer
abbrev pub refusal_row : Refusal → ℕ × List ℕ
refusal_row (refusal.Store fault) = store_row fault
refusal_row (refusal.Path fault) = path_row fault
refusal_row refusal.TooManyLogins = (421, codes "Too many login attempts")
refusal_row refusal.TooManyHeldLines = (421, codes "Too many held lines")
refusal_row refusal.NoGuarantee = (421, codes "Guaranteed rate not available")
refusal_row refusal.NoDataConnection = (425, codes "No data connection")
refusal_row refusal.NoPassivePort = (425, codes "No passive port is free")
refusal_row refusal.NothingPrepared = (425, codes "Use PASV, EPSV, PORT or EPRT first")
refusal_row refusal.ConnectionLost = (426, codes "Connection lost")
refusal_row refusal.TransferAborted = (426, codes "Transfer aborted")
refusal_row refusal.OnlyExtended = (501, codes "EPSV ALL is in force")
refusal_row refusal.ForeignAddress = (501, codes "Foreign address")
refusal_row refusal.PrivilegedPort = (501, codes "Privileged port")
refusal_row refusal.OffsetNeedsImage = (501, codes "Offset needs TYPE I")
refusal_row refusal.ListsNoFile = (501, codes "Not a directory")
refusal_row refusal.NoSource = (503, codes "Send RNFR first")
refusal_row refusal.OffsetBeforeAppend = (503, codes "REST before APPE")
refusal_row refusal.NoName = (503, codes "Send USER first")
refusal_row refusal.AlreadyInside = (503, codes "Already logged in")
refusal_row refusal.OtherProtocol = (522, codes "Network protocol not supported, use (1)")
refusal_row refusal.LogInFirst = (530, codes "Log in first")
refusal_row refusal.LoginIncorrect = (530, codes "Login incorrect")
refusal_row refusal.NotPermitted = (550, codes "Not permitted")
refusal_row refusal.SizeNeedsImage = (550, codes "SIZE needs TYPE I")

-- the reply that is written
abbrev pub answer_form : {A : Type 0} → Answer A → ReplyForm
answer_form (answer.Notice what) = OneLine (notice_row what).0 (notice_row what).1
answer_form (answer.Refusal why) = OneLine (refusal_row why).0 (refusal_row why).1
answer_form (answer.Fault fault) = fault_reply fault
answer_form (answer.Made reply) = reply
