-- The endings of the commands. A file is given by a test of the octets that it may contain, as for
-- the commands on sheets. Old and new are the contents of the output before and after, and Refuses
-- is the test of the octets that it may refuse.
use Rattle.std.specs.Borrow.{Bor}
use Rattle.std.specs.Prelude.{◌≡◌, ℕ, Bool, List, Option, Some, None, false, if◌then◌else◌, option_map, true}
use Rattle.command_line.specs.declared.words.Words.{Words}
use Rattle.line_rates.specs.declared.share_by.ShareBy.{ShareBy}
use Rattle.line_rates.specs.declared.share_by.ShareBy.TheVariants as share
use Rattle.command_line.specs.declared.words.Words.TheVariants.{Sheet, CheckConfig, Migrate, Script, Serve, Plan, Top, Usage}
use Rattle.config_report.specs.Looks.{Shown}
use Rattle.sheets_program.specs.Endings.{IsNoLine}
use Rattle.sheets_program.specs.Runs.{IsInput, IsSheetEnd, Octets}
use Rattle.sheets_program.specs.declared.ending.Exit.TheVariants.{Done, Refused, Text}
use Rattle.sheets_program.specs.declared.files.TheConstants.{STANDARD_INPUT}
use Rattle.ftpd_program.specs.Against.{IsAgainstEnd}
use Rattle.ftpd_program.specs.Endings.{IsCommon}
use Rattle.ftpd_program.specs.Faults.{IsPrintingFaultOf, IsReadingFaultOf}
use Rattle.ftpd_program.specs.Printing.{AppendsPrint, IsOfPlan, IsPrintOf, IsUnprintedAt, IsUntabledAt}
use Rattle.ftpd_program.specs.Scripting.{IsRefusalOf, IsScripted, IsUnscripted}
use Rattle.ftpd_program.specs.Serving.{IsServeEnd, Service}
use Rattle.ftpd_program.specs.declared.against.TheConstants.{RUNNING_FILE}
use Rattle.ftpd_program.specs.declared.ending.FtpdExit.{FtpdExit}
use Rattle.ftpd_program.specs.declared.ending.FtpdExit.TheVariants.{Common, Config, Transfers, Session, Status, Watches, AddsUp}
use Rattle.ftpd_program.specs.declared.printing.Print.{Print}
use Rattle.ftpd_program.specs.declared.printing.Print.TheVariants.{Report, ReportJson, Latest, Plan as PlanOf, PlanJson, Table}
use Rattle.ftpd_program.specs.declared.scripting.ScriptFault.TheVariants.{Session as Unserved}

-- the ending of a command that prints a text about a file, by the possible results of
-- looks at the machine, and the contents that its file may have
abbrev pub IsPrintEnd : Print → Shown → Octets → (List ℕ → Type 0) → Option (List ℕ)
    → Option (List ℕ) → FtpdExit → Type 0
IsPrintEnd print shown gives Refuses old new (Common Done) =
    (text : Option (List ℕ)) × gives text × AppendsPrint print shown text old new
IsPrintEnd print shown gives Refuses old new (Common (Text fault cause)) =
    IsPrintingFaultOf gives (IsPrintOf print shown) Refuses fault
IsPrintEnd print shown gives Refuses old new (Config file fault) =
    (text : Option (List ℕ)) × gives text × IsUnprintedAt print text fault
IsPrintEnd print shown gives Refuses old new (Transfers name reported) = IsOfPlan print
IsPrintEnd print shown gives Refuses old new (Status file fault) =
    (text : Option (List ℕ)) × gives text × IsUntabledAt print text fault
IsPrintEnd print shown gives Refuses old new _ = ⊥

-- the report on the configuration of the file of a path, as JSON or in lines, for a line that is
-- shared in that way
abbrev pub report_print : Bool → ShareBy → Bor (List ℕ) → Print
report_print false by path = Report path by
report_print true by path = ReportJson path by

-- the ending of `check-config` for the path of a configuration, of a line that is shared among its
-- sessions
abbrev pub IsReportEnd : Bool → Shown → Octets → List ℕ → (List ℕ → Type 0) → Option (List ℕ)
    → Option (List ℕ) → FtpdExit → Type 0
IsReportEnd json shown gives config Refuses old new ending =
    (path : Bor (List ℕ)) × (path.now ≡ config)
    × IsPrintEnd (report_print json share.Sessions path) shown gives Refuses old new ending

-- the plan of the transfers that a word states, as JSON or in lines
abbrev pub plan_print : Bool → Bor (List ℕ) → ShareBy → Print
plan_print false transfers by = PlanOf transfers by
plan_print true transfers by = PlanJson transfers by

-- the ending of `plan` for the text of those transfers, of a line that is shared among its sessions
abbrev pub IsPlanEnd : Bool → Shown → Octets → List ℕ → (List ℕ → Type 0) → Option (List ℕ)
    → Option (List ℕ) → FtpdExit → Type 0
IsPlanEnd json shown gives transfers Refuses old new ending =
    (stated : Bor (List ℕ)) × (stated.now ≡ transfers)
    × IsPrintEnd (plan_print json stated share.Sessions) shown gives Refuses old new ending

-- the ending of `top` after that of its first table: it goes on, unless once is enough
abbrev pub after_table : Bool → Bor (List ℕ) → ℕ → FtpdExit → FtpdExit
after_table once status rows (Common Done) =
    if once then Common Done else Watches status rows
after_table once status rows ending = ending

-- the ending of `top` for the path of a status, after an ending of its first table with that
-- property
abbrev pub IsTopEnd : Bool → List ℕ → ℕ → (FtpdExit → Type 0) → FtpdExit → Type 0
IsTopEnd once path rows P (Watches status lines) =
    (once ≡ false) × (status.now ≡ path) × (lines ≡ rows) × P (Common Done)
IsTopEnd once path rows P (Common Done) = (once ≡ true) × P (Common Done)
IsTopEnd once path rows P ending = P ending

-- the ending of `script` for the path of a configuration; the control text is that of standard
-- input
abbrev pub IsScriptEnd : (List ℕ → Octets) → List ℕ → Option (List ℕ) → Option (List ℕ) → FtpdExit
    → Type 0
IsScriptEnd gives config old new (Common Done) =
    ¬ IsInput config × ((text before after : Option (List ℕ))
    × gives config text × gives STANDARD_INPUT.now before × IsScripted text before after old new)
IsScriptEnd gives config old new (Common (Refused reported)) = IsInput config
IsScriptEnd gives config old new (Common (Text fault cause)) = IsReadingFaultOf (gives config) fault
IsScriptEnd gives config old new (Config file fault) =
    (text : Option (List ℕ)) × gives config text × IsRefusalOf text fault
IsScriptEnd gives config old new (Session fault) =
    ¬ IsInput config × ((text before after : Option (List ℕ))
    × gives config text × gives STANDARD_INPUT.now before
    × IsUnscripted text before after old new (Unserved fault))
IsScriptEnd gives config old new _ = ⊥

-- the ending of `check-config` for the path of a configuration and the running file; the line is
-- refused if another configuration is stated too
abbrev pub IsRunningEnd : Bool → (List ℕ → Octets) → List ℕ → Option (Bor (List ℕ))
    → (List ℕ → Type 0) → Option (List ℕ) → Option (List ℕ) → FtpdExit → Type 0
IsRunningEnd json gives config None Refuses old new ending =
    IsAgainstEnd json gives config RUNNING_FILE.now Refuses old new ending
IsRunningEnd json gives config (Some other) Refuses old new ending =
    IsCommon IsNoLine ending × (new ≡ old)

-- the ending of `check-config` for the path of a configuration, and that of another one if it is
-- stated, or the running file; the report alone depends on the way of sharing
abbrev pub IsConfigEnd : (List ℕ → Octets) → Shown → (List ℕ → Type 0) → Bor (List ℕ) → Bool
    → ShareBy → Option (Bor (List ℕ)) → Bool → Option (List ℕ) → Option (List ℕ) → FtpdExit → Type 0
IsConfigEnd gives shown Refuses config json by against true old new ending =
    IsRunningEnd json gives config.now against Refuses old new ending
IsConfigEnd gives shown Refuses config json by None false old new ending =
    IsPrintEnd (report_print json by config) shown (gives config.now) Refuses old new ending
IsConfigEnd gives shown Refuses config json by (Some other) false old new ending =
    IsAgainstEnd json gives config.now other.now Refuses old new ending

-- the ending of that command, given the possible results of looks at the machine, and the possible
-- calls of a server
abbrev pub IsCommandEnd : (List ℕ → Octets) → Shown → Service → (List ℕ → Type 0) → Words
    → Option (List ℕ) → Option (List ℕ) → FtpdExit → Type 0
IsCommandEnd gives shown serves Refuses (Sheet words) old new ending =
    IsCommon (IsSheetEnd gives words old new) ending
IsCommandEnd gives shown serves Refuses (CheckConfig config json against running share_by) old new
    ending =
    IsConfigEnd gives shown Refuses config json share_by against running old new ending
IsCommandEnd gives shown serves Refuses (Migrate config) old new ending =
    IsPrintEnd Latest shown (gives config.now) Refuses old new ending
IsCommandEnd gives shown serves Refuses (Script config) old new ending =
    IsScriptEnd gives config.now old new ending
IsCommandEnd gives shown serves Refuses (Serve config files patience) old new ending =
    IsServeEnd (gives config.now) shown config.now serves
    (option_map (λ w. w.now) files.stop_file) (option_map (λ w. w.now) files.ready_file) patience
    old new ending
IsCommandEnd gives shown serves Refuses (Plan config transfers json share_by) old new ending =
    IsPrintEnd (plan_print json transfers share_by) shown (gives config.now) Refuses old new ending
IsCommandEnd gives shown serves Refuses (Top status once rows) old new ending =
    IsTopEnd once status.now rows
    (IsPrintEnd (Table rows) shown (gives status.now) Refuses old new) ending
IsCommandEnd gives shown serves Refuses Usage old new ending = (ending ≡ AddsUp) × (new ≡ old)
