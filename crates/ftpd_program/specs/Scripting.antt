-- The effect of `script`.
use Rattle.std.specs.Prelude.{◌≡◌, ◌≢◌, ℕ, List, Option}
use Rattle.config_report.specs.Looks.{Shown}
use Rattle.config_report.specs.Reports.{AreWarningsOf}
use Rattle.script_session.specs.Served.{IsServed, IsSessionBreak, IsUnserved}
use Rattle.script_session.specs.declared.fault.SessionFault.TheVariants.{Control, Folder}
use Rattle.server_config.specs.Configs.{IsConfigText}
use Rattle.server_config.specs.Refused.{IsFaultOfText}
use Rattle.server_config.specs.declared.config.Config.{Config}
use Rattle.server_config.specs.declared.fault.ConfigFault.{ConfigFault}
use Rattle.text_io.specs.Texts.{IsTextOf}
use Rattle.text_io.specs.declared.fault.TextFault.TheVariants.{Memory, WriteFault}
use Rattle.ftpd_program.specs.declared.scripting.ScriptFault.{ScriptFault}
use Rattle.ftpd_program.specs.declared.scripting.ScriptFault.TheVariants.{Config as Refused, Session, Text}

-- the text of an end is that of a configuration
abbrev pub IsConfigOf : Option (List ℕ) → Config → Type 0
IsConfigOf left config = (text : List ℕ) × IsTextOf text left × IsConfigText text config

-- the text is that of a configuration, with those warnings by the possible results of looks at the
-- machine; the path is that of its file
abbrev pub IsWarned : Shown → List ℕ → List ℕ → Config → List ℕ → Type 0
IsWarned shown path text config reported =
    IsConfigText text config × AreWarningsOf shown path text reported

-- the same for the text of an end
abbrev pub IsWarnedOf : Shown → List ℕ → Option (List ℕ) → Config → List ℕ → Type 0
IsWarnedOf shown path left config reported =
    (text : List ℕ) × IsTextOf text left × IsWarned shown path text config reported

-- the text of an end is refused for that fault
abbrev pub IsRefusalOf : Option (List ℕ) → ConfigFault → Type 0
IsRefusalOf left fault = (text : List ℕ) × IsTextOf text left × IsFaultOfText text fault

-- memory ran out, or the text is refused for that fault
abbrev pub IsJudgement : List ℕ → ScriptFault → Type 0
IsJudgement text (Text fault) = fault ≡ Memory
IsJudgement text (Refused fault) = IsFaultOfText text fault
IsJudgement text (Session fault) = ⊥

-- the configuration is not read, or it is refused
abbrev pub IsUnconfigured : Option (List ℕ) → ScriptFault → Type 0
IsUnconfigured left (Text fault) = fault ≢ WriteFault
IsUnconfigured left (Refused fault) = IsRefusalOf left fault
IsUnconfigured left (Session fault) = ⊥

-- The text of the first end is that of a configuration, and the session is served by it: old and
-- new are the control text left to read, out and out' the octets written, before and after.
abbrev pub IsScripted : Option (List ℕ) → Option (List ℕ) → Option (List ℕ) → Option (List ℕ)
    → Option (List ℕ) → Type 0
IsScripted left old new out out' =
    (config : Config) × IsConfigOf left config × IsServed config old new out out'

-- the configuration is not read, or it is refused, or the session by it is not served whole
abbrev pub IsUnscripted : Option (List ℕ) → Option (List ℕ) → Option (List ℕ) → Option (List ℕ)
    → Option (List ℕ) → ScriptFault → Type 0
IsUnscripted left old new out out' (Text fault) = fault ≢ WriteFault
IsUnscripted left old new out out' (Refused fault) = IsRefusalOf left fault
IsUnscripted left old new out out' (Session fault) =
    (config : Config) × IsConfigOf left config × IsUnserved config old new out out' fault

-- the session breaks off by a fault of the input or of the output only if these may have one
abbrev pub IsScriptBreak : Type 0 → Type 0 → ScriptFault → Type 0
IsScriptBreak reading writing (Text fault) = Unit {0}
IsScriptBreak reading writing (Refused fault) = Unit {0}
IsScriptBreak reading writing (Session fault) = IsSessionBreak reading writing fault

-- the session was not begun
abbrev pub IsNotBegun : ScriptFault → Type 0
IsNotBegun (Text fault) = Unit {0}
IsNotBegun (Refused fault) = Unit {0}
IsNotBegun (Session Folder) = Unit {0}
IsNotBegun (Session (Control why)) = ⊥
