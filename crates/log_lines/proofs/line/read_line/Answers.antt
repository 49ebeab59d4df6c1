use Rattle.std.specs.Prelude.{option_map}
use Rattle.log_lines.specs.Lines.{line_view}
use Rattle.log_lines.proofs.Parsed.{not_read, text_read}
use Rattle.log_lines.proofs.line.read_line.Goals as goal

pub returns-in-Ok : goal.returns-in-Ok
returns-in-Ok c = record {
  line = text_read c.args.line.now c.in-Ok.text.now (option_map line_view c.read_words.result) c.read_words.ensures.line c.in-Ok.ensures.cases.0 c.in-Ok.ensures.cases.1;
}

pub returns-in-Err : goal.returns-in-Err
returns-in-Err c = record { line = not_read c.args.line.now c.in-Err.ensures.cases.0 }
