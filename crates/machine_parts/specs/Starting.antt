-- Forms, numbers and options that the words of a command line state.
use Rattle.std.specs.Prelude.{◌≡◌, ◌⊎◌, ℕ, Bool, true, false, not, ◌&&◌, cond, nat_eq, bytes_eq, codes, List, [], ◌∷◌, ◌++◌, Option, Some, None, is_some, string_bytes, String}
use Rattle.client_patience.specs.declared.patience.Patience.{Patience}
use Rattle.ftpd_program.specs.IdleOptions.{idle_sessions, idle_sync, idle_text}
use Rattle.ftpd_program.specs.StatedSessions.{AreSessions}
use Rattle.ftpd_program.specs.declared.idle_options.IdleOption.{IdleOption}
use Rattle.ftpd_program.specs.declared.server.ServeFault.TheVariants.{DrainSeconds, ReloadFile}
use Rattle.ftpd_program.specs.declared.start.StartFault.{StartFault}
use Rattle.ftpd_program.specs.declared.start.StartFault.TheVariants.{DrainFileThere, DrainFileUnseen, EndFileThere, EndFileUnseen, InputAgain, NothingDrains, ReloadFileThere, ReloadFileUnseen, StopFileThere, StopFileUnseen}
use Rattle.line_queue.specs.declared.sink.LogForm.{LogForm}
use Rattle.line_queue.specs.declared.sink.LogForm.TheVariants.{Plain, Journal}
use Rattle.server_config.specs.declared.store.ServedStore.{ServedStore}
use Rattle.server_config.specs.declared.store.ServedStore.TheVariants.{Memory, Folder}
use Rattle.sheets_program.specs.Runs.{IsInput}
use Rattle.machine_parts.specs.declared.asked.ReadText.{ReadText}
use Rattle.machine_parts.specs.declared.asked.SignPaths.{SignPaths}
use Rattle.machine_parts.specs.declared.starting.Hindrance.{Hindrance}
use Rattle.machine_parts.specs.declared.starting.Hindrance.TheVariants.{There, Reported}
use Rattle.machine_parts.specs.declared.starting.Sign.{Sign}
use Rattle.machine_parts.specs.declared.starting.Sign.TheVariants.{Stop, Drain, Reload, End}
use Rattle.machine_parts.specs.declared.status_file.StatusFile.{StatusFile}
use Rattle.machine_parts.specs.declared.stated_options.Unprepared.{Unprepared}

-- the form of notes of a name; plain without one
abbrev pub form_of : Option (List ℕ) → Option LogForm
form_of None = Some Plain
form_of (Some name) =
    cond (bytes_eq name (codes "plain")) (Some Plain)
    (cond (bytes_eq name (codes "journal")) (Some Journal) None)

-- a text states that number of sessions; without one it is 0, which is no limit
abbrev pub StateSessions : Option (List ℕ) → ℕ → Type 0
StateSessions None n = n ≡ 0
StateSessions (Some text) n = AreSessions text n

-- a line on an option that has no effect
abbrev pub idle_line : Option IdleOption → List ℕ
idle_line None = []
idle_line (Some option) = idle_text option ++ 10 ∷ []

abbrev pub is_in_memory : ServedStore → Bool
is_in_memory (Memory store) = true
is_in_memory (Folder path) = false

-- a line on each option that has no effect: on the device of files, and on sessions of a user
abbrev pub idle_lines : ServedStore → Bool → ℕ → ℕ → List ℕ
idle_lines store syncs sessions connections =
    idle_line (idle_sync syncs (is_in_memory store))
    ++ idle_line (idle_sessions sessions connections)

-- a time for draining is stated, and no drain file
abbrev pub drains_nothing : Patience → SignPaths → Bool
drains_nothing patience signs =
    not (nat_eq patience.drain_timeout 0) && not (is_some signs.drain)

-- the configuration is standard input, and there is to be a reload file
abbrev pub ReadsInputAgain : ReadText → SignPaths → Type 0
ReadsInputAgain read signs = IsInput (string_bytes read.path) × (is_some signs.reload ≡ true)

-- the first contradiction of options
abbrev pub IsContradiction : Patience → ReadText → SignPaths → Unprepared → Type 0
IsContradiction patience read signs refused =
    ((drains_nothing patience signs ≡ true)
    × (refused ≡ record { fault = DrainSeconds; start = Some NothingDrains }))
    ⊎ ((drains_nothing patience signs ≡ false) × ReadsInputAgain read signs
    × (refused ≡ record { fault = ReloadFile; start = Some InputAgain }))

-- the fault of a start whose sign could not be noticed at a path: it names the sign and the path,
-- and has the machine's reason, if there is one
abbrev pub IsSignFault : Sign → List ℕ → Hindrance → StartFault → Type 0
IsSignFault Stop path There (StopFileThere at) = string_bytes at ≡ path
IsSignFault Stop path (Reported reason) (StopFileUnseen at why) =
    (string_bytes at ≡ path) × (why ≡ reason)
IsSignFault Drain path There (DrainFileThere at) = string_bytes at ≡ path
IsSignFault Drain path (Reported reason) (DrainFileUnseen at why) =
    (string_bytes at ≡ path) × (why ≡ reason)
IsSignFault Reload path There (ReloadFileThere at) = string_bytes at ≡ path
IsSignFault Reload path (Reported reason) (ReloadFileUnseen at why) =
    (string_bytes at ≡ path) × (why ≡ reason)
IsSignFault End path There (EndFileThere at) = string_bytes at ≡ path
IsSignFault End path (Reported reason) (EndFileUnseen at why) =
    (string_bytes at ≡ path) × (why ≡ reason)
IsSignFault _ path _ _ = ⊥

-- the file at a path, with the new file beside it, and with these permissions
pub record IsFileAt {M Y Z : Type 0} (mode : ℕ) (paths : String Y × String Z)
    (file : StatusFile M) : Type 0 where
  pub path : string_bytes file.path ≡ string_bytes paths.0
  pub beside : string_bytes file.beside ≡ string_bytes paths.1
  pub mode_is : file.mode ≡ mode

-- there is one if there are paths
abbrev pub IsFileIf : {M Y Z : Type 0} → ℕ → Option (String Y × String Z) → Option (StatusFile M)
    → Type 0
IsFileIf mode None found = found ≡ None
IsFileIf mode (Some paths) None = ⊥
IsFileIf mode (Some paths) (Some file) = IsFileAt mode paths file
