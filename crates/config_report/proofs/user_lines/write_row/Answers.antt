use Rattle.std.proofs.Common.{string_bytes}
use Rattle.std.specs.List.{flat_map}
use Rattle.config_report.specs.UserLines.{login_line, override_line, quit_line, user_line, user_lines}
use Rattle.config_report.proofs.Joined.{four}
use Rattle.config_report.proofs.user_lines.write_row.Goals as goal

pub returns : goal.returns
unfolding user_lines
returns c =
    let row = c.args.row.now in
    record {
      lines = four (string_bytes c.args.text.now) (string_bytes c.write_user.new.text) (string_bytes c.write_overrides.new.text) (string_bytes c.write_login.new.text) (string_bytes c.write_quit.new.text)
          (user_line row.user.now) (flat_map override_line row.overrides.now) (login_line row.user.now) (quit_line row.user.now)
          c.in_ok-write_user.ensures.line c.in_ok-write_overrides.ensures.lines c.in_ok-write_login.ensures.line c.in_ok-write_quit.ensures.line;
    }
