use Rattle.line_rates.specs.declared.share_by.ShareBy.TheVariants.{Sessions}
use Rattle.config_report.proofs.Reported.{reported}
use Rattle.config_report.proofs.reporting.warning_texts.Goals as goal
use Rattle.config_report.specs.declared.reporting.Part.TheVariants.{Warnings}

pub returns-clause-warnings : goal.returns-clause-warnings
returns-clause-warnings g c = reported Warnings Sessions (g.L.Lookout.Shows c.args.lookout.now) c.args.path.now c.args.octets.now c.in_ok-config.config c.reported_of.result c.in_ok-config.ensures.config c.reported_of.ensures.report
