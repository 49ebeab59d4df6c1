-- The report on a change, by the texts of two configurations.
use Rattle.std.specs.Prelude.{◌≡◌, ℕ, Bool, true, false, List, Some, is_some, string_bytes}
use Rattle.toml.specs.Data.{Members}
use Rattle.toml.specs.Parse.{parse_document}
use Rattle.config_file.specs.Tables.{IsTables}
use Rattle.config_file.specs.declared.tables.Tables.{Tables}
use Rattle.config_report.specs.ReportData.{IsJsonOf}
use Rattle.server_config.specs.Configs.{IsConfigText}
use Rattle.server_config.specs.Refused.{IsFaultOfText}
use Rattle.server_config.specs.declared.config.Config.{Config}
use Rattle.change_report.specs.ChangeData.{change_data}
use Rattle.change_report.specs.Changes.{limit_changes, name_changes, setting_changes}
use Rattle.change_report.specs.Lines.{lines_text}
use Rattle.change_report.specs.Reasons.{IsReason}
use Rattle.change_report.specs.declared.changes.Changes.{Changes}
use Rattle.change_report.specs.declared.fault.ChangeFault.{ChangeFault}
use Rattle.change_report.specs.declared.fault.ChangeFault.TheVariants.{New, Old}
use Rattle.change_report.specs.declared.reporting.ChangeReport.{ChangeReport}

-- the differences of two configurations, by their tables
pub record AreChanges (old new : Tables) (changes : Changes) : Type 0 where
  pub reason : IsReason old.server new.server changes.reason
  pub settings : changes.settings.items ≡ setting_changes old.server new.server
  pub names : changes.names.items ≡ name_changes old new
  pub limits : changes.limits.items ≡ limit_changes old new

-- the text is the report on these differences, as JSON or in lines
abbrev pub IsWritten : Bool → Changes → List ℕ → Type 0
IsWritten true changes text = IsJsonOf (change_data changes) text
IsWritten false changes text = text ≡ lines_text changes

-- the report on the differences of two configurations, by their tables
abbrev pub IsReportBy : Bool → Tables → Tables → ChangeReport → Type 0
IsReportBy json old new report =
    (changes : Changes) × AreChanges old new changes
    × IsWritten json changes (string_bytes report.text)
    × (report.is_refused ≡ is_some changes.reason)

-- the document of a text that is a configuration
abbrev pub IsDocument : List ℕ → Members → Type 0
IsDocument octets document =
    ((config : Config) × IsConfigText octets config)
    × (parse_document octets ≡ Some document)

-- the document states these tables
abbrev pub HasTables : Members → Tables → Type 0
HasTables document tables = IsTables document tables

-- the same report for the tables of two documents
abbrev pub IsReportIn : Bool → Members → Members → ChangeReport → Type 0
IsReportIn json old new report =
    (before after : Tables) × HasTables old before × HasTables new after
    × IsReportBy json before after report

-- the same report for the texts of two configurations
abbrev pub IsReportOf : Bool → List ℕ → List ℕ → ChangeReport → Type 0
IsReportOf json old new report =
    (before after : Members) × IsDocument old before × IsDocument new after
    × IsReportIn json before after report

-- the new text is refused for that fault; or the old one, and the new one is a configuration; or
-- memory ran out
abbrev pub IsChangeFault : List ℕ → List ℕ → ChangeFault → Type 0
IsChangeFault old new (New fault) = IsFaultOfText new fault
IsChangeFault old new (Old fault) =
    ((config : Config) × IsConfigText new config) × IsFaultOfText old fault
