use Rattle.std.proofs.Common.{rules}
use Rattle.change_report.proofs.reporting.judged.Goals as goal

pub returns-in-Ok-clause-document : goal.returns-in-Ok-clause-document
returns-in-Ok-clause-document c = ((c.in_ok-_config._config, c.in_ok-_config.ensures.config), search rules)
