-- The endings without a report on transfer logs.
use Rattle.std.specs.Prelude.{◌≡◌, ◌++◌, ℕ, List, codes, string_bytes}
use Rattle.ftpd_program.specs.declared.ending.FtpdExit.{FtpdExit}
use Rattle.ftpd_program.specs.declared.ending.FtpdExit.TheVariants.{Common, Transfers}
use Rattle.sheets_program.specs.declared.ending.Exit.{Exit}
use Rattle.sheets_program.specs.declared.ending.Exit.TheVariants.{Refused, Text}
use Rattle.text_io.specs.declared.fault.TextFault.TheVariants as text
use Rattle.usage_report.specs.declared.source.NoUsage.{NoUsage}
use Rattle.usage_report.specs.declared.source.NoUsage.TheVariants as usage
use Rattle.machine_parts.specs.LookedFile.{IsTextEnding}

abbrev pub IsMemoryEnd : Exit → Type 0
IsMemoryEnd (Text fault cause) = fault ≡ text.Memory
IsMemoryEnd _ = ⊥

-- the sums of the logs up to that path are too large; or memory ran out
abbrev pub IsTooMuch : List ℕ → FtpdExit → Type 0
IsTooMuch path (Transfers name reported) =
    (name.now ≡ codes "TooMuch")
    × (string_bytes reported ≡ path ++ codes ": the sums are not below 2^64")
IsTooMuch path (Common ending) = IsMemoryEnd ending
IsTooMuch path _ = ⊥

-- an ending that any command may have
abbrev pub IsCommonEnd : (Exit → Type 0) → FtpdExit → Type 0
IsCommonEnd Is (Common ending) = Is ending
IsCommonEnd Is _ = ⊥

-- the ending for the reason for which there is no report
abbrev pub IsUnreported : NoUsage → FtpdExit → Type 0
IsUnreported (usage.Refused reported) ending = ending ≡ Common (Refused reported)
IsUnreported (usage.Log path error) ending = IsTextEnding text.ReadFault path.now ending
IsUnreported (usage.TooMuch path) ending = IsTooMuch path.now ending
IsUnreported usage.Memory ending = IsCommonEnd IsMemoryEnd ending
