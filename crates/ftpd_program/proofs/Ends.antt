-- The ends of commands, for the words that name them.
use Rattle.std.proofs.Common.{◌≡◌, ℕ, Bool, false, true, List, Option, None, Some, option_map, refl, subst, sym}
use Rattle.command_line.specs.Given.{IsCheck, IsCheckConfig, IsMigrate, IsOfSheets, IsPlanWords, IsScript, IsServe, IsShare, IsTop}
use Rattle.client_patience.specs.declared.patience.Patience.{Patience}
use Rattle.line_rates.specs.declared.share_by.ShareBy.{ShareBy}
use Rattle.command_line.specs.declared.words.Words.{Words}
use Rattle.command_line.specs.declared.words.Words.TheVariants.{Sheet, CheckConfig, Migrate, Script, Serve, Plan, Top, Usage}
use Rattle.script_session.specs.declared.fault.SessionFault.{SessionFault}
use Rattle.config_report.specs.Looks.{Shown}
use Rattle.sheets_program.proofs.Ends.{check_words_end, share_words_end}
use Rattle.sheets_program.specs.Runs.{IsCheckEnd, IsShareEnd, Octets}
use Rattle.sheets_program.specs.declared.ending.Exit.TheVariants.{Done, Flawed, Refused, Text, Share as Unshared, Check as Unchecked}
use Rattle.std.specs.Borrow.{Bor}
use Rattle.ftpd_program.specs.Against.{IsAgainstEnd}
use Rattle.ftpd_program.specs.Endings.{IsCommon, IsUnwritten}
use Rattle.ftpd_program.specs.Runs.{IsCommandEnd, IsPlanEnd, IsPrintEnd, IsReportEnd, IsScriptEnd, IsTopEnd, after_table, plan_print, report_print}
use Rattle.ftpd_program.specs.Scripting.{IsUnscripted}
use Rattle.ftpd_program.specs.Serving.{IsServeEnd, Service}
use Rattle.ftpd_program.specs.declared.against.TheConstants.{RUNNING_FILE}
use Rattle.ftpd_program.specs.declared.ending.FtpdExit.{FtpdExit}
use Rattle.ftpd_program.specs.declared.ending.FtpdExit.TheVariants.{Common, Config, ConfigOf, NoReload, Transfers, Session, Server, Status, Watches, AddsUp}
use Rattle.ftpd_program.specs.declared.printing.Print.TheVariants.{Latest, Table}
use Rattle.ftpd_program.specs.declared.scripting.ScriptFault.{ScriptFault}
use Rattle.ftpd_program.specs.declared.scripting.ScriptFault.TheVariants.{Session as Unserved}

pub share_end : (gives : List ℕ → Octets) (shown : Shown) (serves : Service) (Refuses : List ℕ → Type 0) (words : Words) (sheet : List ℕ) (as_svg : Bool) (old new : Option (List ℕ)) (ending : FtpdExit)
    → IsOfSheets (IsShare sheet as_svg None) words → IsCommandEnd gives shown serves Refuses words old new ending → IsCommon (IsShareEnd gives None as_svg sheet old new) ending
share_end gives shown serves Refuses (Sheet words) sheet as_svg old new (Common ending) is end = share_words_end gives words sheet as_svg old new ending is end
share_end gives shown serves Refuses (Sheet words) sheet as_svg old new (Config file fault) is end = absurd end
share_end gives shown serves Refuses (Sheet words) sheet as_svg old new (ConfigOf file fault) is end = absurd end
share_end gives shown serves Refuses (Sheet words) sheet as_svg old new NoReload is end = absurd end
share_end gives shown serves Refuses (Sheet words) sheet as_svg old new (Transfers name reported) is end = absurd end
share_end gives shown serves Refuses (Sheet words) sheet as_svg old new (Session fault) is end = absurd end
share_end gives shown serves Refuses (Sheet words) sheet as_svg old new (Server fault) is end = absurd end
share_end gives shown serves Refuses (Sheet words) sheet as_svg old new (Status file fault) is end = absurd end
share_end gives shown serves Refuses (Sheet words) sheet as_svg old new (Watches status rows) is end = absurd end
share_end gives shown serves Refuses (Sheet words) sheet as_svg old new AddsUp is end = absurd end
share_end gives shown serves Refuses (CheckConfig path json against running share_by) sheet as_svg old new ending is end = absurd is
share_end gives shown serves Refuses (Migrate path) sheet as_svg old new ending is end = absurd is
share_end gives shown serves Refuses (Script path) sheet as_svg old new ending is end = absurd is
share_end gives shown serves Refuses (Serve path files patience) sheet as_svg old new ending is end = absurd is
share_end gives shown serves Refuses (Plan path stated json share_by) sheet as_svg old new ending is end = absurd is
share_end gives shown serves Refuses (Top status once rows) sheet as_svg old new ending is end = absurd is
share_end gives shown serves Refuses Usage sheet as_svg old new ending is end = absurd is

pub check_end : (gives : List ℕ → Octets) (shown : Shown) (serves : Service) (Refuses : List ℕ → Type 0) (words : Words) (sheet grants : List ℕ) (old new : Option (List ℕ)) (ending : FtpdExit)
    → IsOfSheets (IsCheck sheet grants None) words → IsCommandEnd gives shown serves Refuses words old new ending → IsCommon (IsCheckEnd gives None sheet grants old new) ending
check_end gives shown serves Refuses (Sheet words) sheet grants old new (Common ending) is end = check_words_end gives words sheet grants old new ending is end
check_end gives shown serves Refuses (Sheet words) sheet grants old new (Config file fault) is end = absurd end
check_end gives shown serves Refuses (Sheet words) sheet grants old new (ConfigOf file fault) is end = absurd end
check_end gives shown serves Refuses (Sheet words) sheet grants old new NoReload is end = absurd end
check_end gives shown serves Refuses (Sheet words) sheet grants old new (Transfers name reported) is end = absurd end
check_end gives shown serves Refuses (Sheet words) sheet grants old new (Session fault) is end = absurd end
check_end gives shown serves Refuses (Sheet words) sheet grants old new (Server fault) is end = absurd end
check_end gives shown serves Refuses (Sheet words) sheet grants old new (Status file fault) is end = absurd end
check_end gives shown serves Refuses (Sheet words) sheet grants old new (Watches status rows) is end = absurd end
check_end gives shown serves Refuses (Sheet words) sheet grants old new AddsUp is end = absurd end
check_end gives shown serves Refuses (CheckConfig path json against running share_by) sheet grants old new ending is end = absurd is
check_end gives shown serves Refuses (Migrate path) sheet grants old new ending is end = absurd is
check_end gives shown serves Refuses (Script path) sheet grants old new ending is end = absurd is
check_end gives shown serves Refuses (Serve path files patience) sheet grants old new ending is end = absurd is
check_end gives shown serves Refuses (Plan path stated json share_by) sheet grants old new ending is end = absurd is
check_end gives shown serves Refuses (Top status once rows) sheet grants old new ending is end = absurd is
check_end gives shown serves Refuses Usage sheet grants old new ending is end = absurd is

pub report_end : (gives : List ℕ → Octets) (shown : Shown) (serves : Service) (Refuses : List ℕ → Type 0) (words : Words) (config : List ℕ) (as_json : Bool) (old new : Option (List ℕ)) (ending : FtpdExit)
    → IsCheckConfig config as_json None false words → IsCommandEnd gives shown serves Refuses words old new ending → IsReportEnd as_json shown (gives config) config Refuses old new ending
report_end gives shown serves Refuses (CheckConfig path json None true share_by) config as_json old new ending is end =
    let still = is.3 in
    absurd (cc)
report_end gives shown serves Refuses (CheckConfig path json None false share_by) config as_json old new ending is end =
    let first = subst (λ (p : List ℕ). IsPrintEnd (report_print json share_by path) shown (gives p) Refuses old new ending) is.0 end in
    let second = subst (λ (b : Bool). IsPrintEnd (report_print b share_by path) shown (gives config) Refuses old new ending) is.1 first in
    (path, is.0, subst (λ (by : ShareBy). IsPrintEnd (report_print as_json by path) shown (gives config) Refuses old new ending) is.4 second)
report_end gives shown serves Refuses (CheckConfig path json (Some other) running share_by) config as_json old new ending is end =
    let alone = is.2 in
    absurd (cc)
report_end gives shown serves Refuses (Sheet words) config as_json old new ending is end = absurd is
report_end gives shown serves Refuses (Migrate path) config as_json old new ending is end = absurd is
report_end gives shown serves Refuses (Script path) config as_json old new ending is end = absurd is
report_end gives shown serves Refuses (Serve path files patience) config as_json old new ending is end = absurd is
report_end gives shown serves Refuses (Plan path stated json share_by) config as_json old new ending is end = absurd is
report_end gives shown serves Refuses (Top status once rows) config as_json old new ending is end = absurd is
report_end gives shown serves Refuses Usage config as_json old new ending is end = absurd is

pub against_end : (gives : List ℕ → Octets) (shown : Shown) (serves : Service) (Refuses : List ℕ → Type 0) (words : Words) (config other : List ℕ) (as_json : Bool) (old new : Option (List ℕ)) (ending : FtpdExit)
    → IsCheckConfig config as_json (Some other) false words → IsCommandEnd gives shown serves Refuses words old new ending → IsAgainstEnd as_json gives config other Refuses old new ending
against_end gives shown serves Refuses (CheckConfig path json (Some word) true share_by) config other as_json old new ending is end =
    let still = is.3 in
    absurd (cc)
against_end gives shown serves Refuses (CheckConfig path json (Some word) false share_by) config other as_json old new ending is end =
    let with_other = is.2 in
    let same : word.now ≡ other = cc in
    let first = subst (λ (p : List ℕ). IsAgainstEnd json gives p word.now Refuses old new ending) is.0 end in
    let second = subst (λ (p : List ℕ). IsAgainstEnd json gives config p Refuses old new ending) same first in
    subst (λ (b : Bool). IsAgainstEnd b gives config other Refuses old new ending) is.1 second
against_end gives shown serves Refuses (CheckConfig path json None running share_by) config other as_json old new ending is end =
    let with_other = is.2 in
    absurd (cc)
against_end gives shown serves Refuses (Sheet words) config other as_json old new ending is end = absurd is
against_end gives shown serves Refuses (Migrate path) config other as_json old new ending is end = absurd is
against_end gives shown serves Refuses (Script path) config other as_json old new ending is end = absurd is
against_end gives shown serves Refuses (Serve path files patience) config other as_json old new ending is end = absurd is
against_end gives shown serves Refuses (Plan path stated json share_by) config other as_json old new ending is end = absurd is
against_end gives shown serves Refuses (Top status once rows) config other as_json old new ending is end = absurd is
against_end gives shown serves Refuses Usage config other as_json old new ending is end = absurd is

pub running_end : (gives : List ℕ → Octets) (shown : Shown) (serves : Service) (Refuses : List ℕ → Type 0) (words : Words) (config : List ℕ) (as_json : Bool) (old new : Option (List ℕ)) (ending : FtpdExit)
    → IsCheckConfig config as_json None true words → IsCommandEnd gives shown serves Refuses words old new ending → IsAgainstEnd as_json gives config RUNNING_FILE.now Refuses old new ending
running_end gives shown serves Refuses (CheckConfig path json None true share_by) config as_json old new ending is end =
    let first = subst (λ (p : List ℕ). IsAgainstEnd json gives p RUNNING_FILE.now Refuses old new ending) is.0 end in
    subst (λ (b : Bool). IsAgainstEnd b gives config RUNNING_FILE.now Refuses old new ending) is.1 first
running_end gives shown serves Refuses (CheckConfig path json None false share_by) config as_json old new ending is end =
    let on = is.3 in
    absurd (cc)
running_end gives shown serves Refuses (CheckConfig path json (Some other) running share_by) config as_json old new ending is end =
    let alone = is.2 in
    absurd (cc)
running_end gives shown serves Refuses (Sheet words) config as_json old new ending is end = absurd is
running_end gives shown serves Refuses (Migrate path) config as_json old new ending is end = absurd is
running_end gives shown serves Refuses (Script path) config as_json old new ending is end = absurd is
running_end gives shown serves Refuses (Serve path files patience) config as_json old new ending is end = absurd is
running_end gives shown serves Refuses (Plan path stated json share_by) config as_json old new ending is end = absurd is
running_end gives shown serves Refuses (Top status once rows) config as_json old new ending is end = absurd is
running_end gives shown serves Refuses Usage config as_json old new ending is end = absurd is

pub migrate_end : (gives : List ℕ → Octets) (shown : Shown) (serves : Service) (Refuses : List ℕ → Type 0) (words : Words) (config : List ℕ) (old new : Option (List ℕ)) (ending : FtpdExit)
    → IsMigrate config words → IsCommandEnd gives shown serves Refuses words old new ending → IsPrintEnd Latest shown (gives config) Refuses old new ending
migrate_end gives shown serves Refuses (Migrate path) config old new ending is end = subst (λ (p : List ℕ). IsPrintEnd Latest shown (gives p) Refuses old new ending) is end
migrate_end gives shown serves Refuses (Sheet words) config old new ending is end = absurd is
migrate_end gives shown serves Refuses (CheckConfig path json against running share_by) config old new ending is end = absurd is
migrate_end gives shown serves Refuses (Script path) config old new ending is end = absurd is
migrate_end gives shown serves Refuses (Serve path files patience) config old new ending is end = absurd is
migrate_end gives shown serves Refuses (Plan path stated json share_by) config old new ending is end = absurd is
migrate_end gives shown serves Refuses (Top status once rows) config old new ending is end = absurd is
migrate_end gives shown serves Refuses Usage config old new ending is end = absurd is

pub script_end : (gives : List ℕ → Octets) (shown : Shown) (serves : Service) (Refuses : List ℕ → Type 0) (words : Words) (config : List ℕ) (old new : Option (List ℕ)) (ending : FtpdExit)
    → IsScript config words → IsCommandEnd gives shown serves Refuses words old new ending → IsScriptEnd gives config old new ending
script_end gives shown serves Refuses (Script path) config old new ending is end = subst (λ (p : List ℕ). IsScriptEnd gives p old new ending) is end
script_end gives shown serves Refuses (Sheet words) config old new ending is end = absurd is
script_end gives shown serves Refuses (CheckConfig path json against running share_by) config old new ending is end = absurd is
script_end gives shown serves Refuses (Migrate path) config old new ending is end = absurd is
script_end gives shown serves Refuses (Serve path files patience) config old new ending is end = absurd is
script_end gives shown serves Refuses (Plan path stated json share_by) config old new ending is end = absurd is
script_end gives shown serves Refuses (Top status once rows) config old new ending is end = absurd is
script_end gives shown serves Refuses Usage config old new ending is end = absurd is

pub serve_end : (gives : List ℕ → Octets) (shown : Shown) (serves : Service) (Refuses : List ℕ → Type 0) (words : Words) (config : List ℕ) (path ready : Option (List ℕ)) (p : Patience) (old new : Option (List ℕ)) (ending : FtpdExit)
    → IsServe config path ready p words → IsCommandEnd gives shown serves Refuses words old new ending → IsServeEnd (gives config) shown config serves path ready p old new ending
serve_end gives shown serves Refuses (Serve word files patience) config path ready p old new ending is end =
    let stop = option_map (λ w. w.now) files.stop_file in
    let sign = option_map (λ w. w.now) files.ready_file in
    let first = subst (λ (c : List ℕ). IsServeEnd (gives c) shown c serves stop sign patience old new ending) is.0 end in
    let second = subst (λ (f : Option (List ℕ)). IsServeEnd (gives config) shown config serves f sign patience old new ending) is.1 first in
    let third = subst (λ (f : Option (List ℕ)). IsServeEnd (gives config) shown config serves path f patience old new ending) is.2 second in
    subst (λ (q : Patience). IsServeEnd (gives config) shown config serves path ready q old new ending) is.3 third
serve_end gives shown serves Refuses (Sheet words) config path ready p old new ending is end = absurd is
serve_end gives shown serves Refuses (CheckConfig word json against running share_by) config path ready p old new ending is end = absurd is
serve_end gives shown serves Refuses (Migrate word) config path ready p old new ending is end = absurd is
serve_end gives shown serves Refuses (Script word) config path ready p old new ending is end = absurd is
serve_end gives shown serves Refuses (Plan word stated json share_by) config path ready p old new ending is end = absurd is
serve_end gives shown serves Refuses (Top status once rows) config path ready p old new ending is end = absurd is
serve_end gives shown serves Refuses Usage config path ready p old new ending is end = absurd is

pub plan_end : (gives : List ℕ → Octets) (shown : Shown) (serves : Service) (Refuses : List ℕ → Type 0) (words : Words) (config transfers : List ℕ) (as_json : Bool) (old new : Option (List ℕ)) (ending : FtpdExit)
    → IsPlanWords config transfers as_json words → IsCommandEnd gives shown serves Refuses words old new ending → IsPlanEnd as_json shown (gives config) transfers Refuses old new ending
plan_end gives shown serves Refuses (Plan path stated json share_by) config transfers as_json old new ending is end =
    let first = subst (λ (p : List ℕ). IsPrintEnd (plan_print json stated share_by) shown (gives p) Refuses old new ending) is.0 end in
    let second = subst (λ (b : Bool). IsPrintEnd (plan_print b stated share_by) shown (gives config) Refuses old new ending) is.2 first in
    (stated, is.1, subst (λ (by : ShareBy). IsPrintEnd (plan_print as_json stated by) shown (gives config) Refuses old new ending) is.3 second)
plan_end gives shown serves Refuses (Sheet words) config transfers as_json old new ending is end = absurd is
plan_end gives shown serves Refuses (CheckConfig path json against running share_by) config transfers as_json old new ending is end = absurd is
plan_end gives shown serves Refuses (Migrate path) config transfers as_json old new ending is end = absurd is
plan_end gives shown serves Refuses (Script path) config transfers as_json old new ending is end = absurd is
plan_end gives shown serves Refuses (Serve path files patience) config transfers as_json old new ending is end = absurd is
plan_end gives shown serves Refuses (Top status once rows) config transfers as_json old new ending is end = absurd is
plan_end gives shown serves Refuses Usage config transfers as_json old new ending is end = absurd is

pub top_end : (gives : List ℕ → Octets) (shown : Shown) (serves : Service) (Refuses : List ℕ → Type 0) (words : Words) (path : List ℕ) (only_once : Bool) (lines : ℕ) (old new : Option (List ℕ)) (ending : FtpdExit)
    → IsTop path only_once lines words → IsCommandEnd gives shown serves Refuses words old new ending → IsTopEnd only_once path lines (IsPrintEnd (Table lines) shown (gives path) Refuses old new) ending
top_end gives shown serves Refuses (Top status once rows) path only_once lines old new ending is end =
    let first = subst (λ (p : List ℕ). IsTopEnd once p rows (IsPrintEnd (Table rows) shown (gives p) Refuses old new) ending) is.0 end in
    let second = subst (λ (b : Bool). IsTopEnd b path rows (IsPrintEnd (Table rows) shown (gives path) Refuses old new) ending) is.1 first in
    subst (λ (n : ℕ). IsTopEnd only_once path n (IsPrintEnd (Table n) shown (gives path) Refuses old new) ending) is.2 second
top_end gives shown serves Refuses (Sheet words) path only_once lines old new ending is end = absurd is
top_end gives shown serves Refuses (CheckConfig word json against running share_by) path only_once lines old new ending is end = absurd is
top_end gives shown serves Refuses (Migrate word) path only_once lines old new ending is end = absurd is
top_end gives shown serves Refuses (Script word) path only_once lines old new ending is end = absurd is
top_end gives shown serves Refuses (Serve word files patience) path only_once lines old new ending is end = absurd is
top_end gives shown serves Refuses (Plan word stated json share_by) path only_once lines old new ending is end = absurd is
top_end gives shown serves Refuses Usage path only_once lines old new ending is end = absurd is

pub unserved : (text before after old new : Option (List ℕ)) (fault : ScriptFault) (why : SessionFault)
    → IsUnscripted text before after old new fault → fault ≡ Unserved why → IsUnscripted text before after old new (Unserved why)
unserved text before after old new fault why so is = subst (λ (f : ScriptFault). IsUnscripted text before after old new f) is so

-- the ending after the first table is one of `top`
pub table_end : (once : Bool) (status : Bor (List ℕ)) (rows : ℕ) (P : FtpdExit → Type 0) (ending after : FtpdExit) → ((path : Bor (List ℕ)) (lines : ℕ) → P (Watches path lines) → ⊥) → after ≡ after_table once status rows ending → P ending
    → IsTopEnd once status.now rows P after
table_end once status rows P ending after never is end = subst (λ (e : FtpdExit). IsTopEnd once status.now rows P e) (sym is) (go once ending end)
  where
    go : (b : Bool) (e : FtpdExit) → P e → IsTopEnd b status.now rows P (after_table b status rows e)
    go false (Common Done) end = (refl, refl, refl, end)
    go true (Common Done) end = (refl, end)
    go b (Common Flawed) end = end
    go b (Common (Refused reported)) end = end
    go b (Common (Text why cause)) end = end
    go b (Common (Unshared why cause)) end = end
    go b (Common (Unchecked why cause)) end = end
    go b (Config file fault) end = end
    go b (ConfigOf file fault) end = end
    go b NoReload end = end
    go b (Transfers name reported) end = end
    go b (Session fault) end = end
    go b (Server fault) end = end
    go b (Status file fault) end = end
    go b (Watches path lines) end = absurd (never path lines end)
    go b AddsUp end = end

-- nothing was written after the first table, if nothing was written by it
pub table_unwritten : (once : Bool) (status : Bor (List ℕ)) (rows : ℕ) (ending after : FtpdExit) → after ≡ after_table once status rows ending → IsUnwritten after → IsUnwritten ending
table_unwritten once status rows ending after is unwritten = go once ending (subst IsUnwritten is unwritten)
  where
    go : (b : Bool) (e : FtpdExit) → IsUnwritten (after_table b status rows e) → IsUnwritten e
    go false (Common Done) end = absurd end
    go true (Common Done) end = end
    go b (Common Flawed) end = end
    go b (Common (Refused reported)) end = end
    go b (Common (Text why cause)) end = end
    go b (Common (Unshared why cause)) end = end
    go b (Common (Unchecked why cause)) end = end
    go b (Config file fault) end = end
    go b (ConfigOf file fault) end = end
    go b NoReload end = end
    go b (Transfers name reported) end = end
    go b (Session fault) end = end
    go b (Server fault) end = end
    go b (Status file fault) end = end
    go b (Watches path lines) end = end
    go b AddsUp end = end
