-- The record of a transfer.
use Rattle.std.specs.Prelude.{ℕ, Bool, true, false, ◌&&◌, List, Option, Some, None, option_map}
use Rattle.std.specs.declared.alloc.Global.{Global}
use Rattle.ftp_terms.specs.declared.data_type.DataType.{DataType}
use Rattle.ftp_terms.specs.declared.data_type.DataType.TheVariants.{Ascii, Image}
use Rattle.server_house.specs.declared.cause.EndCause.{EndCause}
use Rattle.server_house.specs.declared.cause.EndCause.TheVariants as cause
use Rattle.server_house.specs.declared.server_hooks.TransferKind.{TransferKind}
use Rattle.server_house.specs.declared.server_hooks.TransferKind.TheVariants.{Sent, Received, Listed}
use Rattle.session_table.specs.declared.inputs.Input.{Input}
use Rattle.session_table.specs.declared.inputs.Input.TheVariants.{TransferEnded}
use Rattle.session_table.specs.declared.actions.HookCall.{HookCall}
use Rattle.session_table.specs.declared.actions.HookCall.TheVariants.{Connect, Disconnect, Login, LoginFailed, Logout, FileSent, FileReceived, IncompleteFileSent, IncompleteFileReceived}
use Rattle.session_table.specs.declared.actions.Job.{Job}
use Rattle.session_table.specs.declared.actions.Job.TheVariants.{Text, SendFile, TakeFile}
use Rattle.virtual_path.specs.Path.{Path, path_text}

-- a call reports the end of a file's transfer
abbrev pub ends_file : HookCall Global → Bool
ends_file Connect = false
ends_file Disconnect = false
ends_file (Login name) = false
ends_file (LoginFailed name) = false
ends_file (Logout name) = false
ends_file (FileSent path) = true
ends_file (FileReceived path) = true
ends_file (IncompleteFileSent path) = true
ends_file (IncompleteFileReceived path) = true

abbrev is_ascii : DataType → Bool
is_ascii Ascii = true
is_ascii Image = false

-- a listing is a text
abbrev pub is_text : {R K : Type 0} → Job Global R K → Bool
is_text (Text octets) = true
is_text (SendFile source data_type) = is_ascii data_type
is_text (TakeFile sink data_type) = is_ascii data_type

abbrev pub job_kind : {R K : Type 0} → Job Global R K → TransferKind
job_kind (Text octets) = Listed
job_kind (SendFile source data_type) = Sent
job_kind (TakeFile sink data_type) = Received

-- the event is the end of a transfer
abbrev pub is_end : {K : Type 0} → Option (Input Global K) → Bool
is_end (Some (TransferEnded end sink)) = true
is_end _ = false

abbrev is_listed : TransferKind → Bool
is_listed Listed = true
is_listed Sent = false
is_listed Received = false

abbrev pub ends_listing : {K : Type 0} → Option (Input Global K) → TransferKind → Bool
ends_listing event kind = is_end event && is_listed kind

-- the text of the path of the last file that was opened, if it is known and the transfer is a
-- file's
abbrev pub path_of : TransferKind → Option Path → Option (List ℕ)
path_of Listed path = None
path_of Sent path = option_map path_text path
path_of Received path = option_map path_text path

-- A transfer that came to its end, and whose file the store refused there, was refused.
abbrev pub cause_with : Option EndCause → Bool → Option EndCause
cause_with None false = None
cause_with None true = Some cause.Refused
cause_with (Some why) is_refused = Some why
