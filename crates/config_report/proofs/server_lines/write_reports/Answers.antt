use Rattle.std.proofs.Common.{codes, string_bytes}
use Rattle.config_report.specs.ServerLines.{ports_text, reported_text}
use Rattle.config_report.proofs.Joined.{three}
use Rattle.config_report.proofs.server_lines.write_reports.Goals as goal

pub returns : goal.returns
returns c =
    let server = c.args.server.now in
    record {
      line = three (string_bytes c.args.text.now) (string_bytes c.write_word.new.text) (string_bytes c.write_reported.new.text) (string_bytes c.write_ports.new.text)
          (codes "tells clients ") (reported_text server) (ports_text server)
          c.in_ok-write_word.ensures.word c.in_ok-write_reported.ensures.reported c.in_ok-write_ports.ensures.ports;
    }
