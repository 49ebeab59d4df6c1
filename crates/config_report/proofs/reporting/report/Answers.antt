use Rattle.config_report.proofs.Reported.{reported}
use Rattle.config_report.proofs.reporting.report.Goals as goal
use Rattle.config_report.specs.declared.reporting.Part.TheVariants.{Whole}

pub returns-clause-report : goal.returns-clause-report
returns-clause-report g c = reported Whole c.args.share_by (g.L.Lookout.Shows c.args.lookout.now) c.args.path.now c.args.octets.now c.in_ok-config.config c.reported_of.result c.in_ok-config.ensures.config c.reported_of.ensures.report
