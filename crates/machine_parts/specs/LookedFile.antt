-- The status file of which one table is asked for.
use Rattle.std.specs.Prelude.{◌≡◌, ◌≢◌, ℕ, true, List}
use Rattle.std.specs.Borrow.{Bor}
use Rattle.command_line.specs.declared.words.Words.{Words}
use Rattle.command_line.specs.declared.words.Words.TheVariants.{Top}
use Rattle.ftpd_program.specs.declared.ending.FtpdExit.{FtpdExit}
use Rattle.ftpd_program.specs.declared.ending.FtpdExit.TheVariants.{Common, Status}
use Rattle.server_status.specs.ReadBack.{IsReadFault}
use Rattle.server_status.specs.declared.fault.StatusFault.{StatusFault}
use Rattle.server_status.specs.declared.fault.StatusFault.TheVariants as fault
use Rattle.sheets_program.specs.Runs.{IsInput, file_of, text_file}
use Rattle.sheets_program.specs.declared.ending.Exit.{Exit}
use Rattle.sheets_program.specs.declared.ending.Exit.TheVariants.{Text}
use Rattle.text_io.specs.declared.fault.TextFault.{TextFault}
use Rattle.text_io.specs.declared.fault.TextFault.TheVariants.{Memory}

-- a fault of the text of the file of a path; it names the file, if it is one of the file
abbrev pub IsTextEnd : TextFault → List ℕ → Exit → Type 0
IsTextEnd fault path (Text why cause) =
    (why ≡ fault) × (file_of cause ≡ text_file path fault)
IsTextEnd fault path _ = ⊥

abbrev pub IsTextEnding : TextFault → List ℕ → FtpdExit → Type 0
IsTextEnding fault path (Common ending) = IsTextEnd fault path ending
IsTextEnding fault path _ = ⊥

-- the ending for the octets of the file of a path that are no status: it names the file and the
-- fault; or memory ran out
abbrev pub IsRefusedStatus : List ℕ → List ℕ → FtpdExit → Type 0
IsRefusedStatus octets path (Status file reason) =
    (file.now ≡ path) × (reason ≢ fault.Memory) × IsReadFault octets reason
IsRefusedStatus octets path (Common ending) = IsTextEnd Memory path ending
IsRefusedStatus octets path _ = ⊥

-- the octets are no status
abbrev pub IsNoStatus : List ℕ → Type 0
IsNoStatus octets = (reason : StatusFault) × (reason ≢ fault.Memory) × IsReadFault octets reason

-- the words ask for one table of that many lines of a file
abbrev pub IsAskedTable : Words → Bor (List ℕ) × ℕ → Type 0
IsAskedTable words asked =
    (words ≡ Top asked.0 true asked.1) × (IsInput asked.0.now → ⊥)

-- they do not: one table of standard input is not one of a file
abbrev pub IsNoTable : Words → Type 0
IsNoTable (Top status true rows) = IsInput status.now
IsNoTable _ = Unit {0}
