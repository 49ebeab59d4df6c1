-- The report on transfer logs.
use Rattle.std.specs.Prelude.{◌≡◌, ℕ, List, [], ◌∷◌, Option, IfSome, if◌then◌else◌, length, nat_eq, take}
use Rattle.std.specs.Borrow.{Bor}
use Rattle.log_lines.specs.Words.{Octets}
use Rattle.usage_report.specs.Looks.{IsLogTaken}
use Rattle.usage_report.specs.Ranks.{AreRanked}
use Rattle.usage_report.specs.ReportData.{IsJsonOf, report_data}
use Rattle.usage_report.specs.Usages.{IsUsageOf}
use Rattle.usage_report.specs.declared.adding.Sums.{Sums}
use Rattle.usage_report.specs.declared.ask.UsageAsk.{UsageAsk}
use Rattle.usage_report.specs.declared.ask.UsageForm.TheVariants.{Json}
use Rattle.usage_report.specs.declared.rank.UsageRow.{UsageRow}
use Rattle.usage_report.specs.declared.report.LogSeen.{LogSeen}
use Rattle.usage_report.specs.declared.report.Report.{Report}
use Rattle.usage_report.specs.declared.usage.Usage.{Usage}

-- the octets that the file of a path may have
abbrev pub Gives : Type 1
Gives = Octets → Option Octets → Type 0

-- the log of a path is taken: its lines, if its octets are known
abbrev pub IsOneTaken : Gives → Usage → Usage → Bor Octets → LogSeen → Type 0
IsOneTaken gives before after path log =
    (log.path ≡ path) × ((left : Option Octets) × gives path.now left
    × IfSome left (IsLogTaken before after log.look))

-- the logs of paths are taken, one after another
abbrev pub TakesLogs : Gives → List (Bor Octets) → List LogSeen → Usage → Usage → Type 0
TakesLogs gives [] [] before after = after ≡ before
TakesLogs gives [] (log ∷ logs) before after = ⊥
TakesLogs gives (path ∷ paths) [] before after = ⊥
TakesLogs gives (path ∷ paths) (log ∷ logs) before after =
    (between : Usage) × IsOneTaken gives before between path log
    × TakesLogs gives paths logs between after

-- the first rows of a report; 0 is no limit
abbrev pub first_rows : ℕ → List UsageRow → List UsageRow
first_rows first rows = if nat_eq first 0 then rows else take first rows

-- the text of that report; of a table and of CSV no more is said
abbrev pub IsReportText : Report → Octets → Type 0
IsReportText report text = report.ask.form ≡ Json → IsJsonOf (report_data report) text

-- the text of the report on sums, given its rows in their order, and what was seen of the logs
pub record IsRankedText (ask : UsageAsk) (total : Sums) (ranked : List UsageRow)
    (logs : List LogSeen) (text : Octets) : Type 0 where
  pub report : Report
  pub asked : report.ask ≡ ask
  pub shown : report.shown.now ≡ first_rows ask.first ranked
  pub in_all : report.in_all ≡ length ranked
  pub total_of : report.total ≡ total
  pub logs_of : report.logs.now ≡ logs
  pub said : IsReportText report text

-- the text of the report on sums, and on what was seen of the logs
abbrev pub IsSumsText : UsageAsk → Usage → List LogSeen → Octets → Type 0
IsSumsText ask usage logs text =
    (ranked : List UsageRow) × AreRanked usage.rows ranked
    × IsRankedText ask usage.total ranked logs text

-- the text of the report on the logs of paths: on sums of no lines, and then of theirs
pub record IsUsageText (gives : Gives) (ask : UsageAsk) (paths : List (Bor Octets)) (text : Octets)
    : Type 0 where
  pub before : Usage
  pub after : Usage
  pub logs : List LogSeen
  pub by : before.by ≡ ask.by
  pub day : before.day ≡ ask.day
  pub none : IsUsageOf before []
  pub taken : TakesLogs gives paths logs before after
  pub said : IsSumsText ask after logs text
