use Rattle.std.proofs.Common.{string_bytes}
use Rattle.config_report.specs.ServerLines.{greets_line, listens_line, reports_line}
use Rattle.config_report.proofs.Joined.{three}
use Rattle.config_report.proofs.server_lines.write_network.Goals as goal

pub returns : goal.returns
returns c =
    let server = c.args.server.now in
    record {
      lines = three (string_bytes c.args.text.now) (string_bytes c.write_listens.new.text) (string_bytes c.write_greets.new.text) (string_bytes c.write_reports.new.text)
          (listens_line server) (greets_line server) (reports_line server)
          c.in_ok-write_listens.ensures.line c.in_ok-write_greets.ensures.line c.in_ok-write_reports.ensures.line;
    }
