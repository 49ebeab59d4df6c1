-- The ending of `check-config` with another configuration: the report on what a server with that
-- one would change if it read the first one. A file is given as in `Runs`.
use Rattle.std.specs.Prelude.{◌≡◌, ◌≢◌, ◌⊎◌, ℕ, Bool, true, false, List, Option, Some, string_bytes}
use Rattle.std.specs.Io.KnownBytes.{Appends}
use Rattle.change_report.specs.Reports.{IsChangeFault, IsReportOf}
use Rattle.change_report.specs.declared.fault.ChangeFault.TheVariants.{New, Old}
use Rattle.change_report.specs.declared.reporting.ChangeReport.{ChangeReport}
use Rattle.sheets_program.specs.Endings.{IsNoLine}
use Rattle.sheets_program.specs.Runs.{IsNamedTwice, Octets, file_of}
use Rattle.sheets_program.specs.declared.ending.Exit.{Exit}
use Rattle.sheets_program.specs.declared.ending.Exit.TheVariants.{Done, Text}
use Rattle.text_io.specs.Texts.{IsTextOf}
use Rattle.text_io.specs.declared.fault.TextFault.TheVariants.{Memory, WriteFault}
use Rattle.ftpd_program.specs.Endings.{IsCommon}
use Rattle.ftpd_program.specs.Faults.{IsReadingFaultOf}
use Rattle.ftpd_program.specs.declared.ending.FtpdExit.{FtpdExit}
use Rattle.ftpd_program.specs.declared.ending.FtpdExit.TheVariants.{Common, ConfigOf, NoReload}

-- ---- the files

-- a file that may have these contents has that text
abbrev pub IsTextIn : Octets → List ℕ → Type 0
IsTextIn gives text = (left : Option (List ℕ)) × gives left × IsTextOf text left

-- the text of the file of a path cannot be read whole, or memory ran out; a fault of the file names
-- it
abbrev pub IsUnread : Octets → List ℕ → Exit → Type 0
IsUnread gives path (Text fault cause) =
    IsReadingFaultOf gives fault × (fault ≢ Memory → file_of cause ≡ Some path)
IsUnread gives path _ = ⊥

-- ---- two texts

-- the report on the change from the old text to the new one, with that verdict, is appended
abbrev pub IsChangeReported :
    Bool → List ℕ → List ℕ → Bool → Option (List ℕ) → Option (List ℕ) → Type 0
IsChangeReported json new old refused before after =
    (report : ChangeReport) × IsReportOf json old new report × (report.is_refused ≡ refused)
    × Appends before after (string_bytes report.text)

-- the output may refuse that report
abbrev pub MayRefuseChange : Bool → List ℕ → List ℕ → (List ℕ → Type 0) → Type 0
MayRefuseChange json new old Refuses =
    (report : ChangeReport) × IsReportOf json old new report × Refuses (string_bytes report.text)

-- this report is written: the ending is done, or that the server would refuse the new configuration
abbrev pub IsChangeWritten : ChangeReport → (List ℕ → Type 0) → Option (List ℕ) → Option (List ℕ)
    → FtpdExit → Type 0
IsChangeWritten report Refuses before after (Common Done) =
    (report.is_refused ≡ false) × Appends before after (string_bytes report.text)
IsChangeWritten report Refuses before after NoReload =
    (report.is_refused ≡ true) × Appends before after (string_bytes report.text)
IsChangeWritten report Refuses before after (Common (Text fault cause)) =
    (fault ≡ WriteFault) × Refuses (string_bytes report.text)
IsChangeWritten report Refuses before after _ = ⊥

-- the new text is refused, or otherwise the old one; the ending names the file
abbrev pub IsRefusedChange : List ℕ → List ℕ → List ℕ → List ℕ → FtpdExit → Type 0
IsRefusedChange config other new old (Common (Text fault cause)) = fault ≡ Memory
IsRefusedChange config other new old (ConfigOf file fault) =
    ((file.now ≡ config) × IsChangeFault old new (New fault))
    ⊎ ((file.now ≡ other) × IsChangeFault old new (Old fault))
IsRefusedChange config other new old _ = ⊥

-- the ending for the new text and the old one, whose files have those paths
abbrev pub IsChangeEnd : Bool → List ℕ → List ℕ → List ℕ → List ℕ → (List ℕ → Type 0)
    → Option (List ℕ) → Option (List ℕ) → FtpdExit → Type 0
IsChangeEnd json config other new old Refuses before after (Common Done) =
    IsChangeReported json new old false before after
IsChangeEnd json config other new old Refuses before after NoReload =
    IsChangeReported json new old true before after
IsChangeEnd json config other new old Refuses before after (Common (Text fault cause)) =
    (fault ≡ Memory) ⊎ ((fault ≡ WriteFault) × MayRefuseChange json new old Refuses)
IsChangeEnd json config other new old Refuses before after (ConfigOf file fault) =
    IsRefusedChange config other new old (ConfigOf file fault)
IsChangeEnd json config other new old Refuses before after _ = ⊥

-- ---- the command

-- Standard input is named as both configurations, and the line is refused; or one of the files
-- cannot be read; or both have texts, and the ending is that for these.
abbrev pub IsAgainstEnd : Bool → (List ℕ → Octets) → List ℕ → List ℕ → (List ℕ → Type 0)
    → Option (List ℕ) → Option (List ℕ) → FtpdExit → Type 0
IsAgainstEnd json gives config other Refuses before after ending =
    (IsNamedTwice config other × IsCommon IsNoLine ending)
    ⊎ (IsCommon
    (λ end. IsUnread (gives config) config end ⊎ IsUnread (gives other) other end) ending
    ⊎ (¬ IsNamedTwice config other × ((new old : List ℕ)
    × IsTextIn (gives config) new × IsTextIn (gives other) old
    × IsChangeEnd json config other new old Refuses before after ending)))
