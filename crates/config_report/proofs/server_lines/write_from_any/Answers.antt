use Rattle.config_report.proofs.server_lines.write_from_any.Goals as goal

pub returns : goal.returns
returns c = record { line = c.writeln.ensures.bytes }
