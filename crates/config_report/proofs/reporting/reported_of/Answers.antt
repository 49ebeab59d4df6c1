use Rattle.std.proofs.Common.{rules}
use Rattle.config_report.proofs.reporting.reported_of.Goals as goal

pub returns-in-Ok-text_of-clause-report : goal.returns-in-Ok-text_of-clause-report
returns-in-Ok-text_of-clause-report g c =
    (_, c.in-Ok-read_tables.tables, c.in-Ok-seen_of.seen, search rules, c.in-Ok-read_tables.ensures.tables, c.in-Ok-seen_of.ensures.seen, c.in-Ok-text_of.ensures.text)
