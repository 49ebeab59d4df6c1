use Rattle.std.proofs.Common.{string_bytes}
use Rattle.config_report.specs.ServerLines.{attempts_line, from_one_line, takes_line}
use Rattle.config_report.proofs.Joined.{three}
use Rattle.config_report.proofs.server_lines.write_bounds.Goals as goal

pub returns : goal.returns
returns c =
    let server = c.args.server.now in
    record {
      lines = three (string_bytes c.args.text.now) (string_bytes c.write_takes.new.text) (string_bytes c.write_from_one.new.text) (string_bytes c.write_attempts.new.text)
          (takes_line server) (from_one_line server) (attempts_line server)
          c.in_ok-write_takes.ensures.line c.in_ok-write_from_one.ensures.line c.in_ok-write_attempts.ensures.line;
    }
