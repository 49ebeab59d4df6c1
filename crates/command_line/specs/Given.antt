-- The commands that words give, and the refusals of words.
use Rattle.std.specs.Prelude.{◌≡◌, ◌≢◌, ◌↔◌, ◌⊎◌, ℕ, Bool, List, [], ◌∷◌, IsTrue, MatchResult, None, Option, Result, Some, codes, false, option_map}
use Rattle.std.specs.Str.{bytes_eq}
use Rattle.std.specs.Borrow.{Bor}
use Rattle.clap.specs.declared.parser.matches.ArgMatches.{ArgMatches}
use Rattle.clap.specs.Words.{IsAmong, Kinds, Row, Text, fault_of, first_of, found_of, rows_of, subcommand_of}
use Rattle.clap.specs.declared.error.kind.ErrorKind.{ErrorKind}
use Rattle.clap.specs.declared.error.kind.ErrorKind.TheVariants.{DisplayHelp, DisplayVersion}
use Rattle.command_line.specs.Commands.{ftpd}
use Rattle.command_line.specs.Numbers.{AreLinesIn, IsPortIn}
use Rattle.command_line.specs.Stated.{IsNumbered, IsUnnumbered}
use Rattle.command_line.specs.Timed.{IsPatienceIn}
use Rattle.command_line.specs.Ways.{IsWayIn}
use Rattle.client_patience.specs.declared.patience.Patience.{Patience}
use Rattle.command_line.specs.declared.words.SheetWords.{SheetWords}
use Rattle.command_line.specs.declared.words.SheetWords.TheVariants.{Share, Check}
use Rattle.command_line.specs.declared.words.Words.{Words}
use Rattle.command_line.specs.declared.words.Words.TheVariants.{Sheet, CheckConfig, Migrate, Script, Serve, Plan, Top, Usage}
use Rattle.command_line.specs.declared.words.WordsFault.{WordsFault}
use Rattle.command_line.specs.declared.words.WordsFault.TheVariants.{Refused, Memory}
use Rattle.line_rates.specs.declared.share_by.ShareBy.TheVariants as share

-- a word that is not empty and does not begin with `-`
abbrev pub IsPlainWord : List ℕ → Type 0
IsPlainWord [] = ⊥
IsPlainWord (octet ∷ rest) = octet ≢ 45

-- the command `share` of that sheet, as a picture or in lines, with that word of a depth, if any
abbrev pub IsShare : List ℕ → Bool → Option (List ℕ) → SheetWords → Type 0
IsShare word as_svg depth (Share sheet svg by) =
    (sheet.now ≡ word) × (svg ≡ as_svg) × (option_map (λ w. w.now) by ≡ depth)
IsShare word as_svg depth (Check sheet grants by) = ⊥

-- the command `check` of that sheet and those grants, with that word of a depth, if any
abbrev pub IsCheck : List ℕ → List ℕ → Option (List ℕ) → SheetWords → Type 0
IsCheck first second depth (Share sheet svg by) = ⊥
IsCheck first second depth (Check sheet grants by) =
    (sheet.now ≡ first) × (grants.now ≡ second) × (option_map (λ w. w.now) by ≡ depth)

-- a command on a sheet with that property
abbrev pub IsOfSheets : (SheetWords → Type 0) → Words → Type 0
IsOfSheets P (Sheet words) = P words
IsOfSheets P (CheckConfig config json against running share_by) = ⊥
IsOfSheets P (Migrate config) = ⊥
IsOfSheets P (Script config) = ⊥
IsOfSheets P (Serve config files patience) = ⊥
IsOfSheets P (Plan config transfers json share_by) = ⊥
IsOfSheets P (Top status once rows) = ⊥
IsOfSheets P Usage = ⊥

-- the command `check-config` of that configuration, as JSON or not, against that other one, if any,
-- or against that of a running file, for a line that is shared among its sessions
abbrev pub IsCheckConfig : List ℕ → Bool → Option (List ℕ) → Bool → Words → Type 0
IsCheckConfig word as_json other by_running (Sheet words) = ⊥
IsCheckConfig word as_json other by_running (CheckConfig config json against running share_by) =
    (config.now ≡ word) × (json ≡ as_json) × (option_map (λ w. w.now) against ≡ other)
    × (running ≡ by_running) × (share_by ≡ share.Sessions)
IsCheckConfig word as_json other by_running (Migrate config) = ⊥
IsCheckConfig word as_json other by_running (Script config) = ⊥
IsCheckConfig word as_json other by_running (Serve config files patience) = ⊥
IsCheckConfig word as_json other by_running (Plan config transfers json share_by) = ⊥
IsCheckConfig word as_json other by_running (Top status once rows) = ⊥
IsCheckConfig word as_json other by_running Usage = ⊥

-- the words of `check-config` with another configuration
abbrev pub against_words : List ℕ → List ℕ → List Text
against_words config other =
    codes "check-config" ∷ config ∷ codes "--against" ∷ other ∷ []

-- the same that ask for JSON
abbrev pub against_json_words : List ℕ → List ℕ → List Text
against_json_words config other =
    codes "check-config" ∷ config ∷ codes "--json" ∷ codes "--against" ∷ other ∷ []

-- the words of `check-config` with a running file
abbrev pub running_words : List ℕ → List Text
running_words config = codes "check-config" ∷ config ∷ codes "--against-running" ∷ []

-- the command `migrate` of that configuration
abbrev pub IsMigrate : List ℕ → Words → Type 0
IsMigrate word (Sheet words) = ⊥
IsMigrate word (CheckConfig config json against running share_by) = ⊥
IsMigrate word (Migrate config) = config.now ≡ word
IsMigrate word (Script config) = ⊥
IsMigrate word (Serve config files patience) = ⊥
IsMigrate word (Plan config transfers json share_by) = ⊥
IsMigrate word (Top status once rows) = ⊥
IsMigrate word Usage = ⊥

-- the command `script` of that configuration
abbrev pub IsScript : List ℕ → Words → Type 0
IsScript word (Sheet words) = ⊥
IsScript word (CheckConfig config json against running share_by) = ⊥
IsScript word (Migrate config) = ⊥
IsScript word (Script config) = config.now ≡ word
IsScript word (Serve config files patience) = ⊥
IsScript word (Plan config transfers json share_by) = ⊥
IsScript word (Top status once rows) = ⊥
IsScript word Usage = ⊥

-- the command `serve` of that configuration, with that stop file and that ready file, if any, and
-- that patience
abbrev pub IsServe : List ℕ → Option (List ℕ) → Option (List ℕ) → Patience → Words → Type 0
IsServe word stop ready p (Sheet words) = ⊥
IsServe word stop ready p (CheckConfig config json against running share_by) = ⊥
IsServe word stop ready p (Migrate config) = ⊥
IsServe word stop ready p (Script config) = ⊥
IsServe word stop ready p (Serve config files patience) =
    (config.now ≡ word) × (option_map (λ w. w.now) files.stop_file ≡ stop)
    × (option_map (λ w. w.now) files.ready_file ≡ ready) × (patience ≡ p)
IsServe word stop ready p (Plan config transfers json share_by) = ⊥
IsServe word stop ready p (Top status once rows) = ⊥
IsServe word stop ready p Usage = ⊥

-- the command `serve` of that configuration, with that transfer log and that form of notes, if any
abbrev pub IsLoggedBy : List ℕ → Option (List ℕ) → Option (List ℕ) → Words → Type 0
IsLoggedBy word path form (Sheet words) = ⊥
IsLoggedBy word path form (CheckConfig config json against running share_by) = ⊥
IsLoggedBy word path form (Migrate config) = ⊥
IsLoggedBy word path form (Script config) = ⊥
IsLoggedBy word path form (Serve config files patience) =
    (config.now ≡ word) × (option_map (λ w. w.now) files.transfer_log ≡ path)
    × (option_map (λ w. w.now) files.log_form ≡ form)
IsLoggedBy word path form (Plan config transfers json share_by) = ⊥
IsLoggedBy word path form (Top status once rows) = ⊥
IsLoggedBy word path form Usage = ⊥

abbrev pub IsLogged : List ℕ → List ℕ → List ℕ → Words → Type 0
IsLogged word path form words = IsLoggedBy word (Some path) (Some form) words

-- the command `serve` of that configuration, with that status file and that port, if any
abbrev pub IsStatusBy : List ℕ → Option (List ℕ) → Option ℕ → Words → Type 0
IsStatusBy word path port (Sheet words) = ⊥
IsStatusBy word path port (CheckConfig config json against running share_by) = ⊥
IsStatusBy word path port (Migrate config) = ⊥
IsStatusBy word path port (Script config) = ⊥
IsStatusBy word path port (Serve config files patience) =
    (config.now ≡ word) × (option_map (λ w. w.now) files.status ≡ path)
    × (files.status_port ≡ port)
IsStatusBy word path port (Plan config transfers json share_by) = ⊥
IsStatusBy word path port (Top status once rows) = ⊥
IsStatusBy word path port Usage = ⊥

-- the words of `serve` with a status file and a port
abbrev pub status_words : List ℕ → List ℕ → List ℕ → List Text
status_words config path port =
    codes "serve" ∷ config ∷ codes "--status" ∷ path ∷ codes "--status-port" ∷ port ∷ []

-- the words of `serve` with a transfer log and a form of notes
abbrev pub logged_words : List ℕ → List ℕ → List ℕ → List Text
logged_words config path form =
    codes "serve" ∷ config ∷ codes "--transfer-log" ∷ path ∷ codes "--log-form" ∷ form ∷ []

-- the words of `serve` with a stop file and a ready file
abbrev pub ready_words : List ℕ → List ℕ → List ℕ → List Text
ready_words config stop ready =
    codes "serve" ∷ config ∷ codes "--stop-file" ∷ stop ∷ codes "--ready-file" ∷ ready ∷ []

-- the command `plan` of that configuration and those transfers, as JSON or not, of a line that is
-- shared among its sessions
abbrev pub IsPlanWords : List ℕ → List ℕ → Bool → Words → Type 0
IsPlanWords word stated as_json (Sheet words) = ⊥
IsPlanWords word stated as_json (CheckConfig config json against running share_by) = ⊥
IsPlanWords word stated as_json (Migrate config) = ⊥
IsPlanWords word stated as_json (Script config) = ⊥
IsPlanWords word stated as_json (Serve config files patience) = ⊥
IsPlanWords word stated as_json (Plan config transfers json share_by) =
    (config.now ≡ word) × (transfers.now ≡ stated) × (json ≡ as_json)
    × (share_by ≡ share.Sessions)
IsPlanWords word stated as_json (Top status once rows) = ⊥
IsPlanWords word stated as_json Usage = ⊥

-- the command `top` of that status file, once or again and again, with that number of lines
abbrev pub IsTop : List ℕ → Bool → ℕ → Words → Type 0
IsTop word only_once lines (Sheet words) = ⊥
IsTop word only_once lines (CheckConfig config json against running share_by) = ⊥
IsTop word only_once lines (Migrate config) = ⊥
IsTop word only_once lines (Script config) = ⊥
IsTop word only_once lines (Serve config files patience) = ⊥
IsTop word only_once lines (Plan config transfers json share_by) = ⊥
IsTop word only_once lines (Top status once rows) =
    (status.now ≡ word) × (once ≡ only_once) × (rows ≡ lines)
IsTop word only_once lines Usage = ⊥

-- the words of `top` with each of its options
abbrev pub top_words : List ℕ → List ℕ → List Text
top_words status lines =
    codes "top" ∷ status ∷ codes "--once" ∷ codes "--rows" ∷ lines ∷ []

-- the name of a command that the parser entered, and its arguments
abbrev pub entered_rows : Bor Text × Bor ArgMatches → Text × List Row
entered_rows found = (found.0.now, rows_of (found_of found.1.now))

abbrev pub is_true : Option Text → Bool
is_true None = false
is_true (Some word) = bytes_eq word (codes "true")

-- the words have that flag: the parser holds `true` for it
abbrev pub is_flagged : Text → List Row → Bool
is_flagged id rows = is_true (first_of id rows)

-- the parser found the command on a sheet, and the words after it
abbrev pub IsSheetFound : Option (Text × List Row) → SheetWords → Type 0
IsSheetFound found (Share sheet svg by) =
    (rows : List Row) × (found ≡ Some (codes "share", rows))
    × (first_of (codes "SHEET") rows ≡ Some sheet.now)
    × (svg ≡ is_flagged (codes "svg") rows)
    × (first_of (codes "by") rows ≡ option_map (λ w. w.now) by)
IsSheetFound found (Check sheet grants by) =
    (rows : List Row) × (found ≡ Some (codes "check", rows))
    × (first_of (codes "SHEET") rows ≡ Some sheet.now)
    × (first_of (codes "GRANTS") rows ≡ Some grants.now)
    × (first_of (codes "by") rows ≡ option_map (λ w. w.now) by)

-- the parser found the command, and the words after it
abbrev pub IsFound : Option (Text × List Row) → Words → Type 0
IsFound found (Sheet words) = IsSheetFound found words
IsFound found (CheckConfig config json against running share_by) =
    (rows : List Row) × (found ≡ Some (codes "check-config", rows))
    × (first_of (codes "CONFIG") rows ≡ Some config.now)
    × (json ≡ is_flagged (codes "json") rows)
    × (first_of (codes "against") rows ≡ option_map (λ w. w.now) against)
    × (running ≡ is_flagged (codes "against-running") rows) × IsWayIn rows share_by
IsFound found (Migrate config) =
    (rows : List Row) × (found ≡ Some (codes "migrate", rows))
    × (first_of (codes "CONFIG") rows ≡ Some config.now)
IsFound found (Script config) =
    (rows : List Row) × (found ≡ Some (codes "script", rows))
    × (first_of (codes "CONFIG") rows ≡ Some config.now)
IsFound found (Serve config files patience) =
    (rows : List Row) × (found ≡ Some (codes "serve", rows))
    × (first_of (codes "CONFIG") rows ≡ Some config.now)
    × (first_of (codes "stop-file") rows ≡ option_map (λ w. w.now) files.stop_file)
    × (first_of (codes "ready-file") rows ≡ option_map (λ w. w.now) files.ready_file)
    × (first_of (codes "drain-file") rows ≡ option_map (λ w. w.now) files.drain_file)
    × (first_of (codes "reload-file") rows ≡ option_map (λ w. w.now) files.reload_file)
    × (first_of (codes "running-file") rows ≡ option_map (λ w. w.now) files.running_file)
    × (first_of (codes "transfer-log") rows ≡ option_map (λ w. w.now) files.transfer_log)
    × (first_of (codes "log-form") rows ≡ option_map (λ w. w.now) files.log_form)
    × (first_of (codes "status") rows ≡ option_map (λ w. w.now) files.status)
    × (first_of (codes "end-file") rows ≡ option_map (λ w. w.now) files.end_file)
    × (first_of (codes "user-sessions") rows ≡ option_map (λ w. w.now) files.user_sessions)
    × (files.syncs ≡ is_flagged (codes "sync") rows)
    × IsWayIn rows files.share_by
    × IsPortIn rows files.status_port × IsPatienceIn rows patience
IsFound found (Plan config transfers json share_by) =
    (rows : List Row) × (found ≡ Some (codes "plan", rows))
    × (first_of (codes "CONFIG") rows ≡ Some config.now)
    × (first_of (codes "TRANSFERS") rows ≡ Some transfers.now)
    × (json ≡ is_flagged (codes "json") rows) × IsWayIn rows share_by
IsFound found (Top status once lines) =
    (rows : List Row) × (found ≡ Some (codes "top", rows))
    × (first_of (codes "STATUS") rows ≡ Some status.now)
    × (once ≡ is_flagged (codes "once") rows) × AreLinesIn rows lines
IsFound found Usage = (rows : List Row) × (found ≡ Some (codes "usage", rows))

-- the words give that command, or memory ran out
abbrev pub GivesOrMemory : {T : Type 0} → (T → Type 0) → Result T WordsFault → Type 0
GivesOrMemory P r = MatchResult r P (λ fault. fault ≡ Memory)

-- there is a command, and the words give it, or memory ran out
abbrev pub GivesOneOrMemory : {T : Type 0} → (T → Type 0) → Result T WordsFault → Type 0
GivesOneOrMemory {T} P r = (one : T) × P one × GivesOrMemory (λ given. given ≡ one) r

-- the words asked for help or the version
abbrev pub IsHelp : ErrorKind → Type 0
IsHelp kind = (kind ≡ DisplayHelp) ⊎ (kind ≡ DisplayVersion)

-- memory ran out, or the fault is a refusal of that kind
abbrev pub IsRefusedAs : ErrorKind → WordsFault → Type 0
IsRefusedAs kind (Refused text is_help) = IsTrue is_help ↔ IsHelp kind
IsRefusedAs kind Memory = Unit {0}

-- memory ran out, or the fault is a refusal of one of those kinds
abbrev pub IsRefusal : Kinds → WordsFault → Type 0
IsRefusal kinds (Refused text is_help) =
    (kind : ErrorKind) × IsAmong kind kinds × (IsTrue is_help ↔ IsHelp kind)
IsRefusal kinds Memory = Unit {0}

-- the parser of `ftpd` accepts the words, and each of them that is to be a number, or a way of
-- sharing, is one
abbrev pub IsTaken : List Text → Type 0
IsTaken words = (fault_of ftpd words ≡ []) × IsNumbered (subcommand_of ftpd words)

-- memory ran out, or that is the refusal of the words: by the parser, or of a number or a way of
-- sharing
abbrev pub IsRefusedFor : List Text → WordsFault → Type 0
IsRefusedFor words fault =
    IsRefusal (fault_of ftpd words) fault ⊎ IsUnnumbered (subcommand_of ftpd words) fault
