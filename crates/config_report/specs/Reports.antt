-- The report on a configuration.
use Rattle.std.specs.Prelude.{◌≡◌, ℕ, List, Some}
use Rattle.toml.specs.Data.{Members}
use Rattle.toml.specs.Parse.{parse_document}
use Rattle.server_config.specs.declared.store.ServedStore.{ServedStore}
use Rattle.config_file.specs.Tables.{IsTables}
use Rattle.config_file.specs.declared.tables.Tables.{Tables}
use Rattle.line_rates.specs.declared.share_by.ShareBy.{ShareBy}
use Rattle.line_rates.specs.declared.share_by.ShareBy.TheVariants.{Sessions}
use Rattle.server_config.specs.Configs.{IsConfigText}
use Rattle.server_config.specs.declared.config.Config.{Config}
use Rattle.std.specs.List.{flat_map}
use Rattle.config_report.specs.Lines.{report_text, warning_row}
use Rattle.config_report.specs.Looks.{IsSeen, Shown}
use Rattle.config_report.specs.ReportData.{IsJsonOf, report_data}
use Rattle.config_report.specs.declared.reporting.Part.{Part}
use Rattle.config_report.specs.declared.reporting.Part.TheVariants.{Whole, Json, Warnings}
use Rattle.config_report.specs.declared.seen.Seen.{Seen}
use Rattle.config_report.specs.declared.warning.Warning.{Warning}
use Rattle.config_report.specs.Warnings.{warnings}

-- the warnings of tables, by what is seen for them, for a line that is shared in that way
abbrev pub warnings_by : ShareBy → Tables → Seen → List Warning
warnings_by by tables seen =
    warnings by tables.server tables.groups.items seen.root seen.mode seen.users.items

-- the text is that part of the report on tables, by what is seen for them
abbrev pub IsReportedBy : Part → ShareBy → Tables → Seen → List ℕ → Type 0
IsReportedBy Whole by tables seen text =
    text ≡ report_text tables tables.groups.items tables.users.items seen.users.items
    (warnings_by by tables seen)
IsReportedBy Json by tables seen text =
    IsJsonOf
    (report_data tables tables.groups.items seen.users.items (warnings_by by tables seen)) text
IsReportedBy Warnings by tables seen text =
    text ≡ flat_map warning_row (warnings_by by tables seen)

-- the same for the tables that the octets of the file of a path state, given the store that is made
-- of them, and the possible results of looks at the machine
abbrev pub IsReport : Part → ShareBy → Shown → List ℕ → List ℕ → ServedStore → List ℕ → Type 0
IsReport part by shown path octets store text =
    (document : Members) × (tables : Tables) × (seen : Seen)
    × (parse_document octets ≡ Some document) × IsTables document tables
    × IsSeen shown path store tables.users.items tables.overrides.items seen
    × IsReportedBy part by tables seen text

-- the same for the store that is made of those tables
abbrev pub IsPartOf : Part → ShareBy → Shown → List ℕ → List ℕ → List ℕ → Type 0
IsPartOf part by shown path octets text =
    (config : Config) × IsConfigText octets config
    × IsReport part by shown path octets config.store text

abbrev pub IsReportOf : ShareBy → Shown → List ℕ → List ℕ → List ℕ → Type 0
IsReportOf by shown path octets text = IsPartOf Whole by shown path octets text

abbrev pub IsReportJson : ShareBy → Shown → List ℕ → List ℕ → List ℕ → Type 0
IsReportJson by shown path octets text = IsPartOf Json by shown path octets text

-- the texts of the warnings alone, for a line that is shared among sessions
abbrev pub AreWarningsOf : Shown → List ℕ → List ℕ → List ℕ → Type 0
AreWarningsOf shown path octets text = IsPartOf Warnings Sessions shown path octets text
