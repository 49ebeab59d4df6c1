-- The endings of a program on sheets.
use Rattle.std.specs.Prelude.{◌≡◌, ◌≢◌, ℕ, List, Option, IsFalse, IsTrue, string_bytes}
use Rattle.std.specs.Io.KnownBytes.{Appends}
use Rattle.command_line.specs.declared.words.WordsFault.{WordsFault}
use Rattle.command_line.specs.declared.words.WordsFault.TheVariants.{Memory as NoMemory, Refused as NoCommand}
use Rattle.sheet_commands.specs.declared.check_fault.CheckFault.TheVariants.{Text as CheckText}
use Rattle.sheet_commands.specs.declared.share_fault.ShareFault.TheVariants.{Text as ShareText}
use Rattle.text_io.specs.declared.fault.TextFault.TheVariants.{Memory, WriteFault}
use Rattle.sheets_program.specs.declared.ending.Exit.{Exit}
use Rattle.sheets_program.specs.declared.ending.Exit.TheVariants.{Done, Flawed, Refused, Text, Share, Check}

abbrev pub status_of : Exit → ℕ
status_of Done = 0
status_of (Text fault cause) = 1
status_of (Share fault cause) = 1
status_of (Check fault cause) = 1
status_of (Refused text) = 2
status_of Flawed = 3

-- nothing was written: the command line is refused, or there is a fault other than that of the
-- output
abbrev pub IsUnwritten : Exit → Type 0
IsUnwritten Done = ⊥
IsUnwritten Flawed = ⊥
IsUnwritten (Refused text) = Unit {0}
IsUnwritten (Text fault cause) = fault ≢ WriteFault
IsUnwritten (Share fault cause) = fault ≢ ShareText WriteFault
IsUnwritten (Check fault cause) = fault ≢ CheckText WriteFault

-- memory ran out before a command
abbrev pub IsOutOfMemory : Exit → Type 0
IsOutOfMemory Done = ⊥
IsOutOfMemory Flawed = ⊥
IsOutOfMemory (Refused text) = ⊥
IsOutOfMemory (Text fault cause) = fault ≡ Memory
IsOutOfMemory (Share fault cause) = ⊥
IsOutOfMemory (Check fault cause) = ⊥

-- the command line is refused with that text, or memory ran out
abbrev pub IsRefusedAs : List ℕ → Exit → Type 0
IsRefusedAs reported (Refused text) = string_bytes text ≡ reported
IsRefusedAs reported ending = IsOutOfMemory ending

-- the words of the line cannot be read: it is refused, or memory ran out
abbrev pub IsNoLine : Exit → Type 0
IsNoLine (Refused text) = Unit {0}
IsNoLine ending = IsOutOfMemory ending

-- the ending of words without a command: the help or version that they asked for is appended to the
-- output, and a refusal is the ending
abbrev pub IsReportedEnd : WordsFault → Option (List ℕ) → Option (List ℕ) → Exit → Type 0
IsReportedEnd NoMemory old new ending = IsOutOfMemory ending
IsReportedEnd (NoCommand text is_help) old new Done =
    IsTrue is_help × Appends old new (string_bytes text)
IsReportedEnd (NoCommand text is_help) old new Flawed = ⊥
IsReportedEnd (NoCommand text is_help) old new (Refused reported) =
    IsFalse is_help × (reported ≡ text)
IsReportedEnd (NoCommand text is_help) old new (Text fault cause) =
    IsTrue is_help × (fault ≡ WriteFault)
IsReportedEnd (NoCommand text is_help) old new (Share fault cause) = ⊥
IsReportedEnd (NoCommand text is_help) old new (Check fault cause) = ⊥
