use Rattle.std.proofs.Common.{string_bytes}
use Rattle.config_report.specs.Lines.{both_line, rates_head, ways_line}
use Rattle.config_report.proofs.Joined.{three}
use Rattle.config_report.proofs.lines.write_server_rates.Goals as goal

pub returns : goal.returns
returns c =
    let server = c.args.server.now in
    record {
      lines = three (string_bytes c.args.text.now) (string_bytes c.write_rates_head.new.text) (string_bytes c.write_ways.new.text) (string_bytes c.write_both.new.text)
          rates_head (ways_line server) (both_line server)
          c.in_ok-write_rates_head.ensures.line c.in_ok-write_ways.ensures.line c.in_ok-write_both.ensures.line;
    }
