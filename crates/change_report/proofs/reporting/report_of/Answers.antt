use Rattle.change_report.proofs.reporting.report_of.Goals as goal

pub returns : goal.returns
returns c = record {
  report = (
    c.in_ok-before.before,
    c.in_ok-after.after,
    c.in_ok-before.ensures.tables,
    c.in_ok-after.ensures.tables,
    (c.in_ok-changes.changes, c.in_ok-changes.ensures.changes, c.in_ok-text.ensures.text, c.is_refused.ensures.refused),
  );
}
