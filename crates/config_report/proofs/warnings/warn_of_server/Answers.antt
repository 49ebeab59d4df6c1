use Rattle.config_report.specs.Together.{all_warnings}
use Rattle.config_report.specs.Warnings.{file_warnings, port_warnings, root_warnings, sight_warnings}
use Rattle.config_report.proofs.Joined.{five}
use Rattle.config_report.proofs.warnings.warn_of_server.Goals as goal

pub returns : goal.returns
returns c =
    let server = c.args.server.now in
    record {
      warnings = five c.args.found.now.items c.warn_of_root.new.found.items c.warn_of_sight.new.found.items c.warn_of_ports.new.found.items c.warn_of_all.new.found.items c.warn_of_file.new.found.items
          (root_warnings server.root) (sight_warnings server.root c.args.root) (port_warnings server) (all_warnings server c.args.rows.now) (file_warnings c.args.mode c.args.rows.now)
          c.in_ok-warn_of_root.ensures.warnings c.in_ok-warn_of_sight.ensures.warnings c.in_ok-warn_of_ports.ensures.warnings c.in_ok-warn_of_all.ensures.warnings c.in_ok-warn_of_file.ensures.warnings;
    }
