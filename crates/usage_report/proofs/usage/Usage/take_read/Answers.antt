use Rattle.std.proofs.Common.{sym}
use Rattle.log_lines.specs.Lines.{line_view}
use Rattle.usage_report.proofs.Seen.{on_ok, seen_off, seen_on}
use Rattle.usage_report.proofs.usage.Usage.take_read.Goals as goal

pub returns-then-is_on : goal.returns-then-is_on
returns-then-is_on c = record {
  seen = on_ok c.count.result _ _ (λ counted. seen_on _ _ _ (sym c.if-is_on.ensures.counted) counted) c.count.ensures.counted;
}

pub returns-else-is_on : goal.returns-else-is_on
returns-else-is_on c = record {
  seen = seen_off c.args.self.now (line_view c.args.line.now) (sym c.if-is_on.ensures.counted);
}
