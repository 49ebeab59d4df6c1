-- The commands of the programs, as the parser of command lines sees them.
use Rattle.std.specs.Prelude.{true, codes, Some}
use Rattle.clap.specs.Lexer.{usize_max}
use Rattle.clap.specs.Words.{App, Rule, Text, new_app, new_rule, with_rule, with_subcommand}
use Rattle.clap.specs.declared.builder.ArgAction.TheVariants.{Append, Set, SetTrue}

-- a required word: the path of a file
abbrev pub file_rule : Text → Rule
file_rule id = record (new_rule id) { required = true; action = Some Set }

-- required words, one or more: the paths of files
abbrev pub files_rule : Text → Rule
files_rule id = record (new_rule id) {
  required = true;
  range = Some (record { start_inclusive = 1; end_inclusive = usize_max });
  action = Some Append;
}

-- an optional option `--ID NAME`, with one value
abbrev pub value_rule : Text → Rule
value_rule id = record (new_rule id) { long = Some id; value_names = 1; action = Some Set }

-- an optional flag `--ID`
abbrev pub flag_rule : Text → Rule
flag_rule id = record (new_rule id) { long = Some id; action = Some SetTrue }

-- a command without words
abbrev pub bare : Text → App
bare name = new_app name

-- `share SHEET [--svg] [--by DEPTH]`
abbrev pub share : App
share =
    with_rule
    (with_rule
    (with_rule
    (bare
    (codes "share")) (file_rule (codes "SHEET"))) (flag_rule (codes "svg")))
    (value_rule (codes "by"))

-- `check SHEET GRANTS [--by DEPTH]`
abbrev pub check : App
check =
    with_rule
    (with_rule
    (with_rule
    (bare
    (codes "check")) (file_rule (codes "SHEET"))) (file_rule (codes "GRANTS")))
    (value_rule (codes "by"))

-- `check-config CONFIG [--json] [--against PATH] [--against-running] [--share-by WAY]`
abbrev pub check_config : App
check_config =
    with_rule
    (with_rule
    (with_rule
    (with_rule
    (with_rule
    (bare
    (codes "check-config")) (file_rule (codes "CONFIG"))) (flag_rule (codes "json")))
    (value_rule (codes "against"))) (flag_rule (codes "against-running")))
    (value_rule (codes "share-by"))

-- `migrate CONFIG`
abbrev pub migrate : App
migrate = with_rule (bare (codes "migrate")) (file_rule (codes "CONFIG"))

-- `script CONFIG`
abbrev pub script : App
script = with_rule (bare (codes "script")) (file_rule (codes "CONFIG"))

-- the command with the options `--login-timeout`, `--idle-timeout`, `--login-delay` and
-- `--drain-seconds`
abbrev pub with_patience : App → App
with_patience app =
    with_rule
    (with_rule
    (with_rule
    (with_rule app
    (value_rule (codes "login-timeout")))
    (value_rule (codes "idle-timeout")))
    (value_rule (codes "login-delay")))
    (value_rule (codes "drain-seconds"))

-- the command with the options `--stop-file`, `--ready-file`, `--drain-file`, `--reload-file` and
-- `--running-file`
abbrev pub with_files : App → App
with_files app =
    with_rule
    (with_rule
    (with_rule
    (with_rule
    (with_rule app
    (value_rule (codes "stop-file")))
    (value_rule (codes "ready-file")))
    (value_rule (codes "drain-file")))
    (value_rule (codes "reload-file")))
    (value_rule (codes "running-file"))

-- the command with the options `--transfer-log` and `--log-form`
abbrev pub with_logs : App → App
with_logs app =
    with_rule (with_rule app (value_rule (codes "transfer-log"))) (value_rule (codes "log-form"))

-- the command with the options `--status` and `--status-port`
abbrev pub with_status : App → App
with_status app =
    with_rule (with_rule app (value_rule (codes "status"))) (value_rule (codes "status-port"))

-- the command with the options `--end-file` and `--user-sessions`
abbrev pub with_sessions : App → App
with_sessions app =
    with_rule (with_rule app (value_rule (codes "end-file"))) (value_rule (codes "user-sessions"))

-- the command with the flag `--sync` and the option `--share-by`
abbrev pub with_sync_and_way : App → App
with_sync_and_way app =
    with_rule (with_rule app (flag_rule (codes "sync"))) (value_rule (codes "share-by"))

-- `serve CONFIG [--stop-file PATH] [--ready-file PATH] [--drain-file PATH] [--reload-file PATH]
-- [--running-file PATH] [--transfer-log PATH] [--log-form FORM] [--status PATH]
-- [--status-port PORT] [--login-timeout SECONDS] [--idle-timeout SECONDS] [--login-delay SECONDS]
-- [--drain-seconds SECONDS] [--end-file PATH] [--user-sessions N] [--sync] [--share-by WAY]`
abbrev pub serve : App
serve =
    with_sync_and_way
    (with_sessions
    (with_patience
    (with_status
    (with_logs (with_files (with_rule (bare (codes "serve")) (file_rule (codes "CONFIG"))))))))

-- `plan CONFIG TRANSFERS [--json] [--share-by WAY]`
abbrev pub plan : App
plan =
    with_rule
    (with_rule
    (with_rule
    (with_rule
    (bare
    (codes "plan")) (file_rule (codes "CONFIG"))) (file_rule (codes "TRANSFERS")))
    (flag_rule (codes "json"))) (value_rule (codes "share-by"))

-- `top STATUS [--once] [--rows N]`
abbrev pub show : App
show =
    with_rule
    (with_rule
    (with_rule
    (bare
    (codes "top")) (file_rule (codes "STATUS"))) (flag_rule (codes "once")))
    (value_rule (codes "rows"))

-- `usage XFERLOG.. [--day DAY] [--by KEY] [--first N] [--json] [--csv]`
abbrev pub usage : App
usage =
    with_rule
    (with_rule
    (with_rule
    (with_rule
    (with_rule
    (with_rule
    (bare
    (codes "usage")) (files_rule (codes "XFERLOG"))) (value_rule (codes "day")))
    (value_rule (codes "by"))) (value_rule (codes "first"))) (flag_rule (codes "json")))
    (flag_rule (codes "csv"))

-- the program of that name without commands; its words do not include a program's name
abbrev pub top : Text → App
top name =
    let app = bare name in
    record app {
      top = record app.top {
        no_binary_name = true;
        has_version = true;
        subcommand_required = true;
      };
    }

-- the program of that name with the commands on sheets
abbrev pub with_sheets : Text → App
with_sheets name = with_subcommand (with_subcommand (top name) share.top) check.top

-- the program `sheets`
abbrev pub sheets : App
sheets = with_sheets (codes "sheets")

-- the program `ftpd`
abbrev pub ftpd : App
ftpd =
    with_subcommand
    (with_subcommand
    (with_subcommand
    (with_subcommand
    (with_subcommand
    (with_subcommand
    (with_subcommand
    (with_sheets
    (codes "ftpd")) check_config.top) migrate.top) script.top) serve.top) plan.top) show.top)
    usage.top
