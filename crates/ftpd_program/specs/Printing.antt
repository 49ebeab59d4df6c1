-- The texts about a file that commands print: about a configuration, or the status of a server.
use Rattle.std.specs.Prelude.{◌≡◌, ℕ, List, Option, Some, None}
use Rattle.std.specs.Io.KnownBytes.{Appends}
use Rattle.config_report.specs.Looks.{Shown}
use Rattle.config_report.specs.Reports.{IsReportJson, IsReportOf}
use Rattle.server_config.specs.Migrated.{IsMigrated, IsUnmigrated}
use Rattle.server_config.specs.Refused.{IsFaultOfText}
use Rattle.server_config.specs.declared.fault.ConfigFault.{ConfigFault}
use Rattle.plan_report.specs.Reports.{IsPlanJson, IsPlanReport}
use Rattle.text_io.specs.Texts.{IsTextOf}
use Rattle.text_io.specs.declared.fault.TextFault.TheVariants.{Memory}
use Rattle.server_status.specs.ReadBack.{IsReadFault}
use Rattle.server_status.specs.declared.fault.StatusFault.{StatusFault}
use Rattle.ftpd_program.specs.Watching.{IsTableOf}
use Rattle.ftpd_program.specs.declared.printing.Print.{Print}
use Rattle.ftpd_program.specs.declared.printing.Print.TheVariants.{Report, ReportJson, Latest, Plan, PlanJson, Table}
use Rattle.ftpd_program.specs.declared.printing.PrintFault.{PrintFault}
use Rattle.ftpd_program.specs.declared.printing.PrintFault.TheVariants.{Config, Text, Transfers, Status}

-- the report on the configuration of a text, by the possible results of looks at the machine, in
-- lines or as JSON, for a line that is shared in that way; or a text that has the same
-- configuration in version 2; of a plan in lines only that transfers are planned by the rates of
-- the configuration; of one as JSON also that the text has their shares; or the table of the
-- transfers of a status
abbrev pub IsPrintOf : Print → Shown → List ℕ → List ℕ → Type 0
IsPrintOf (Report path by) shown text printed = IsReportOf by shown path.now text printed
IsPrintOf (ReportJson path by) shown text printed = IsReportJson by shown path.now text printed
IsPrintOf Latest shown text printed = IsMigrated text printed
IsPrintOf (Plan transfers by) shown text printed = IsPlanReport by text
IsPrintOf (PlanJson transfers by) shown text printed = IsPlanJson by text printed
IsPrintOf (Table rows) shown text printed = IsTableOf rows text printed

-- the text is refused for that fault; or, in version 2, it has no print that is read back
abbrev pub IsUnprinted : Print → List ℕ → ConfigFault → Type 0
IsUnprinted (Report path by) text fault = IsFaultOfText text fault
IsUnprinted (ReportJson path by) text fault = IsFaultOfText text fault
IsUnprinted Latest text fault = IsUnmigrated text fault
IsUnprinted (Plan transfers by) text fault = IsFaultOfText text fault
IsUnprinted (PlanJson transfers by) text fault = IsFaultOfText text fault
IsUnprinted (Table rows) text fault = ⊥

-- the text is the plan of transfers
abbrev pub IsOfPlan : Print → Type 0
IsOfPlan (Plan transfers by) = Unit {0}
IsOfPlan (PlanJson transfers by) = Unit {0}
IsOfPlan print = ⊥

-- the text is the table of a status
abbrev pub IsOfTable : Print → Type 0
IsOfTable (Table rows) = Unit {0}
IsOfTable print = ⊥

-- memory ran out, or the text has no status, for that fault
abbrev pub IsTableRefusal : List ℕ → PrintFault → Type 0
IsTableRefusal text (Text why) = why ≡ Memory
IsTableRefusal text (Config fault) = ⊥
IsTableRefusal text (Transfers name reported) = ⊥
IsTableRefusal text (Status fault) = IsReadFault text fault

-- memory ran out, or the text or the transfers are refused
abbrev pub IsPlanRefusal : List ℕ → PrintFault → Type 0
IsPlanRefusal text (Text why) = why ≡ Memory
IsPlanRefusal text (Config fault) = IsFaultOfText text fault
IsPlanRefusal text (Transfers name reported) = Unit {0}
IsPlanRefusal text (Status fault) = ⊥

-- memory ran out, or the text is refused for that fault
abbrev pub IsPrintRefusal : Print → List ℕ → PrintFault → Type 0
IsPrintRefusal print text (Text why) = why ≡ Memory
IsPrintRefusal print text (Config fault) = IsUnprinted print text fault
IsPrintRefusal print text (Transfers name reported) = IsOfPlan print
IsPrintRefusal print text (Status fault) = IsOfTable print × IsReadFault text fault

-- a text about the configuration of the octets that were read is appended
abbrev pub AppendsPrint : Print → Shown → Option (List ℕ) → Option (List ℕ) → Option (List ℕ)
    → Type 0
AppendsPrint print shown None old new = Unit {0}
AppendsPrint print shown (Some text) old new =
    (printed : List ℕ) × IsPrintOf print shown text printed × Appends old new printed

-- the text of an end is refused for that fault
abbrev pub IsUnprintedAt : Print → Option (List ℕ) → ConfigFault → Type 0
IsUnprintedAt print left fault = (text : List ℕ) × IsTextOf text left × IsUnprinted print text fault

-- the text of an end has no status, for that fault
abbrev pub IsUntabledAt : Print → Option (List ℕ) → StatusFault → Type 0
IsUntabledAt print left fault =
    IsOfTable print × ((text : List ℕ) × IsTextOf text left × IsReadFault text fault)

-- a fault of the configuration at an end; a fault of texts is not constrained
abbrev pub IsPrintFault : Print → Option (List ℕ) → PrintFault → Type 0
IsPrintFault print left (Text why) = Unit {0}
IsPrintFault print left (Config fault) = IsUnprintedAt print left fault
IsPrintFault print left (Transfers name reported) = IsOfPlan print
IsPrintFault print left (Status fault) = IsUntabledAt print left fault
