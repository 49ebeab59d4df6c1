use Rattle.std.proofs.Common.{codes, string_bytes}
use Rattle.config_report.specs.Lines.{part_line, user_line}
use Rattle.config_report.proofs.Joined.{three}
use Rattle.config_report.proofs.lines.write_user_rates.Goals as goal

pub returns : goal.returns
returns c =
    let user = c.args.user.now in
    record {
      lines = three (string_bytes c.args.text.now) (string_bytes c.write_user_line.new.text) (string_bytes c.write_part.new.text) (string_bytes c.write_part-2.new.text)
          (user_line user) (part_line (codes "  each session") user.session_down_rate user.session_up_rate)
          (part_line (codes "  guaranteed to each") user.session_down_floor user.session_up_floor)
          c.in_ok-write_user_line.ensures.line c.in_ok-write_part.ensures.line c.in_ok-write_part-2.ensures.line;
    }
