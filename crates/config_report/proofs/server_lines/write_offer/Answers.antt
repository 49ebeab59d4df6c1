use Rattle.std.proofs.Common.{string_bytes}
use Rattle.config_report.specs.ServerLines.{connects_line, serves_line, sessions_line}
use Rattle.config_report.proofs.Joined.{three}
use Rattle.config_report.proofs.server_lines.write_offer.Goals as goal

pub returns : goal.returns
returns c =
    let tables = c.args.tables.now in
    record {
      lines = three (string_bytes c.args.text.now) (string_bytes c.write_connects.new.text) (string_bytes c.write_sessions.new.text) (string_bytes c.write_serves.new.text)
          (connects_line tables.server) (sessions_line tables.server) (serves_line tables)
          c.in_ok-write_connects.ensures.line c.in_ok-write_sessions.ensures.line c.in_ok-write_serves.ensures.line;
    }
