-- The rule of each command: its conditions, and its row by name; and the row of each name.
use Rattle.std.specs.Prelude.{true, false, List, ℕ, [], Some, None, codes, unwrap_or, Result, Ok, Err}
use Rattle.ftp_terms.specs.declared.letters.Letter.{Letter}
use Rattle.ftp_terms.specs.declared.letters.Letter.TheVariants as letter
use Rattle.ftp_wire.specs.Items.{Item}
use Rattle.ftp_wire.specs.declared.commands.Command.{Command}
use Rattle.ftp_wire.specs.declared.commands.Command.TheVariants as command
use Rattle.authorizer.specs.Users.{Users}
use Rattle.session_table.specs.declared.notices.Notice.TheVariants as notice
use Rattle.session_table.specs.declared.rules.Conditions.{Conditions}
use Rattle.session_table.specs.declared.rules.FileRow.{FileRow}
use Rattle.session_table.specs.declared.rules.FileRow.TheVariants as file
use Rattle.session_table.specs.declared.rules.LoginRow.{LoginRow}
use Rattle.session_table.specs.declared.rules.LoginRow.TheVariants as login
use Rattle.session_table.specs.declared.rules.Meanwhile.{Meanwhile}
use Rattle.session_table.specs.declared.rules.Meanwhile.TheVariants.{Waits, Served, QuitsLater}
use Rattle.session_table.specs.declared.rules.NamedRow.TheVariants as row
use Rattle.session_table.specs.declared.rules.Rule.{Rule}
use Rattle.session_table.specs.declared.rules.StateRow.{StateRow}
use Rattle.session_table.specs.declared.rules.StateRow.TheVariants as state
use Rattle.session_table.specs.declared.rules.Style.TheVariants.{LongLines, Names}
use Rattle.session_table.specs.declared.refusals.Refusal.{Refusal}
use Rattle.session_table.specs.declared.rules.NamedRow.{NamedRow}
use Rattle.session_table.specs.FileRows.{cwd_row, dele_row, mdtm_row, mkd_row, rmd_row, rnfr_row, rnto_row, size_row}
use Rattle.session_table.specs.Judged.{Location, judged_at, located}
use Rattle.session_table.specs.Plans.{Plan}
use Rattle.session_table.specs.StateRows.{abor_row, eprt_row, epsv_row, feat_row, notes, opts_row, pasv_row, pass_row, port_row, pwd_row, quit_row, refuses, rein_row, rest_row, status_row, type_row, user_row}
use Rattle.session_table.specs.TransferRows.{appe_row, list_row, mlsd_row, mlst_row, retr_row, stat_row, stor_row}
use Rattle.session_table.specs.Views.{View}

-- a command with its texts as octets
abbrev pub Line : Type 0
Line = Command (List ℕ)

-- no condition
abbrev pub at_any_time : Conditions
at_any_time =
    record {
      needs_login = false;
      needs_source = false;
      needs_no_offset = false;
      needs_plain = false;
      moves_data = false;
      keeps_source = false;
      meanwhile = Waits;
    }

abbrev pub after_login : Conditions
after_login = record at_any_time { needs_login = true }

-- the commands that EPSV ALL forbids (RFC 2428, section 4)
abbrev pub unless_only_extended : Conditions
unless_only_extended = record after_login { needs_plain = true }

-- octets are moved over a data connection
abbrev pub moving : Conditions
moving = record after_login { moves_data = true }

-- served even while a transfer runs
abbrev pub served_at_once : Conditions → Conditions
served_at_once conditions = record conditions { meanwhile = Served }

abbrev pub of_login : Conditions → LoginRow (List ℕ) → Rule (List ℕ)
of_login conditions what = record { conditions = conditions; row = row.Login what }

abbrev pub alone : Conditions → StateRow → Rule (List ℕ)
alone conditions what = record { conditions = conditions; row = row.State what }

-- at the location of the path that a text names, for users who have a letter there
abbrev pub at : Conditions → Letter → List ℕ → FileRow → Rule (List ℕ)
at conditions letter text what = record {
  conditions = conditions;
  row = row.At (record { letter = letter; text = text; row = what });
}

-- the rule of a command
abbrev pub rule : Line → Rule (List ℕ)
rule (command.User name) = of_login at_any_time (login.User name)
rule (command.Pass text) = of_login at_any_time (login.Pass (unwrap_or text []))
rule command.Quit = of_login (record at_any_time { meanwhile = QuitsLater }) login.Quit
rule command.Rein = of_login at_any_time login.Rein
rule command.Noop = alone (served_at_once at_any_time) (state.Note notice.Fine)
rule command.Syst = alone at_any_time (state.Note notice.System)
rule (command.Help text) = alone at_any_time (state.Note notice.Standards)
rule command.Feat = alone at_any_time state.Feat
rule (command.Opts wanted) = alone at_any_time (state.Opts wanted)
rule (command.Allo text) = alone after_login (state.Note notice.NoAllocation)
rule (command.SetType wanted) = alone after_login (state.Type wanted)
rule command.Mode = alone after_login (state.Note notice.ModeIsStream)
rule command.Stru = alone after_login (state.Note notice.StructureIsFile)
rule (command.Rest offset) = alone after_login (state.Rest offset)
rule (command.Port to) = alone unless_only_extended (state.Port to)
rule (command.Eprt to) = alone unless_only_extended (state.Eprt to)
rule command.Pasv = alone unless_only_extended state.Pasv
rule (command.Epsv wanted) = alone after_login (state.Epsv wanted)
rule command.Pwd = alone after_login state.Pwd
rule (command.Stat None) = alone (served_at_once after_login) state.Status
rule command.Abor = alone (served_at_once after_login) state.Abor
rule (command.Cwd text) = at after_login letter.ChangeDirectory text file.Cwd
rule command.Cdup = at after_login letter.ChangeDirectory (codes "..") file.Cwd
rule (command.Mkd text) = at after_login letter.MakeDirectory text file.Mkd
rule (command.Rmd text) = at after_login letter.Delete text file.Rmd
rule (command.Dele text) = at after_login letter.Delete text file.Dele
rule (command.Rnfr text) =
    at (record after_login { keeps_source = true }) letter.Rename text file.Rnfr
rule (command.Rnto text) =
    at (record after_login { needs_source = true }) letter.Rename text file.Rnto
rule (command.Size text) = at after_login letter.Listing text file.Size
rule (command.Mdtm text) = at after_login letter.Listing text file.Mdtm
rule (command.Stat (Some text)) = at after_login letter.Listing text file.Stat
rule (command.Mlst text) = at after_login letter.Listing (unwrap_or text []) file.Mlst
rule (command.List text) = at moving letter.Listing (unwrap_or text []) (file.List LongLines)
rule (command.Nlst text) = at moving letter.Listing (unwrap_or text []) (file.List Names)
rule (command.Mlsd text) = at moving letter.Listing (unwrap_or text []) file.Mlsd
rule (command.Retr text) = at moving letter.Retrieve text file.Retr
rule (command.Stor text) = at moving letter.Store text file.Stor
rule (command.Appe text) =
    at (record moving { needs_no_offset = true }) letter.AppendTo text file.Appe

-- the fate of a line while a transfer runs or a passive port is awaited
abbrev pub meanwhile_of : Item → Meanwhile
meanwhile_of (Err why) = Waits
meanwhile_of (Ok line) = (rule line).conditions.meanwhile

-- ---- the row of each name

module _ {A R K : Type 0} where
  abbrev pub login_row : Users → View → LoginRow (List ℕ) → Plan A R K
  login_row users view (login.User name) = user_row view name
  login_row users view (login.Pass password) = pass_row users view password
  login_row users view login.Quit = quit_row users view
  login_row users view login.Rein = rein_row view

  abbrev pub state_row : View → StateRow → Plan A R K
  state_row view (state.Note notice) = notes view notice
  state_row view state.Feat = feat_row view
  state_row view (state.Opts wanted) = opts_row view wanted
  state_row view (state.Type wanted) = type_row view wanted
  state_row view (state.Rest offset) = rest_row view offset
  state_row view (state.Port to) = port_row view to
  state_row view (state.Eprt to) = eprt_row view to
  state_row view state.Pasv = pasv_row view
  state_row view (state.Epsv wanted) = epsv_row view wanted
  state_row view state.Pwd = pwd_row view
  state_row view state.Status = status_row view
  state_row view state.Abor = abor_row view

  -- a moment is in milliseconds since 1970
  abbrev pub file_row : Users → View → ℕ → FileRow → Location → Plan A R K
  file_row users view moment file.Cwd = cwd_row view
  file_row users view moment file.Mkd = mkd_row view
  file_row users view moment file.Rmd = rmd_row view
  file_row users view moment file.Dele = dele_row view
  file_row users view moment file.Rnfr = rnfr_row view
  file_row users view moment file.Rnto = rnto_row view
  file_row users view moment file.Size = size_row view
  file_row users view moment file.Mdtm = mdtm_row view
  file_row users view moment file.Stat = stat_row users view
  file_row users view moment file.Mlst = mlst_row users view
  file_row users view moment (file.List style) = list_row users view style
  file_row users view moment file.Mlsd = mlsd_row users view
  file_row users view moment file.Retr = retr_row view
  file_row users view moment file.Stor = stor_row view moment
  file_row users view moment file.Appe = appe_row view moment

  abbrev pub at_found : View → (Location → Plan A R K) → Result Location Refusal → Plan A R K
  at_found view row (Err why) = refuses view why
  at_found view row (Ok location) = row location

  -- 5 to 8: a row, at its location if it has one
  abbrev pub row_plan : Users → View → ℕ → Conditions → NamedRow (List ℕ) → Plan A R K
  row_plan users view moment conditions (row.Login row) = login_row users view row
  row_plan users view moment conditions (row.State row) = state_row view row
  row_plan users view moment conditions (row.At place) =
      at_found view (file_row users view moment place.row)
      (judged_at users view conditions place.letter (located users view place.text))
