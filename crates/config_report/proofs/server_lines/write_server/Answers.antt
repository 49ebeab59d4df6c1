use Rattle.std.proofs.Common.{string_bytes}
use Rattle.config_report.specs.ServerLines.{bound_lines, network_lines, offer_lines}
use Rattle.config_report.proofs.Joined.{three}
use Rattle.config_report.proofs.server_lines.write_server.Goals as goal

pub returns : goal.returns
returns c =
    let tables = c.args.tables.now in
    record {
      lines = three (string_bytes c.args.text.now) (string_bytes c.write_network.new.text) (string_bytes c.write_bounds.new.text) (string_bytes c.write_offer.new.text)
          (network_lines tables.server) (bound_lines tables.server) (offer_lines tables)
          c.in_ok-write_network.ensures.lines c.in_ok-write_bounds.ensures.lines c.in_ok-write_offer.ensures.lines;
    }
