use Rattle.std.proofs.Common.{codes, string_bytes}
use Rattle.config_report.specs.ServerLines.{address_text, port_text}
use Rattle.config_report.proofs.Joined.{three}
use Rattle.config_report.proofs.server_lines.write_listens.Goals as goal

pub returns : goal.returns
returns c =
    let server = c.args.server.now in
    record {
      line = three (string_bytes c.args.text.now) (string_bytes c.write_word.new.text) (string_bytes c.write_address.new.text) (string_bytes c.write_port.new.text)
          (codes "listens on ") (address_text server) (port_text server)
          c.in_ok-write_word.ensures.word c.in_ok-write_address.ensures.address c.in_ok-write_port.ensures.port;
    }
