use Rattle.std.proofs.Common.{string_bytes}
use Rattle.std.specs.List.{flat_map}
use Rattle.config_report.specs.Lines.{group_rates, server_rates, user_rates, warning_line}
use Rattle.config_report.specs.ServerLines.{server_lines}
use Rattle.config_report.specs.UserLines.{user_lines, users_head}
use Rattle.config_report.proofs.Joined.{seven}
use Rattle.config_report.proofs.lines.lines_of.Goals as goal

pub returns : goal.returns
returns c =
    let tables = c.args.tables.now in
    record {
      text = seven (string_bytes c.new-text.result) (string_bytes c.write_server.new.text) (string_bytes c.write_server_rates.new.text) (string_bytes c.write_groups.new.text)
          (string_bytes c.write_rates_of_users.new.text) (string_bytes c.write_users_head.new.text) (string_bytes c.write_users.new.text) (string_bytes c.write_warnings.new.text)
          (server_lines tables) (server_rates tables.server) (flat_map group_rates c.args.groups.now)
          (flat_map user_rates c.args.users.now) users_head (flat_map user_lines c.args.rows.now) (flat_map warning_line c.args.warnings.now)
          c.new-text.ensures.bytes
          c.in_ok-write_server.ensures.lines c.in_ok-write_server_rates.ensures.lines c.in_ok-write_groups.ensures.lines c.in_ok-write_rates_of_users.ensures.lines
          c.in_ok-write_users_head.ensures.line c.in_ok-write_users.ensures.lines c.in_ok-write_warnings.ensures.lines;
    }
