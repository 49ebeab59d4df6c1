use Rattle.std.proofs.Common.{IfOk, subst}
use Rattle.line_rates.specs.Rates.{Rates}
use Rattle.plan_report.specs.Reports.{HasShares}
use Rattle.plan_report.proofs.Reported.{reported}
use Rattle.plan_report.proofs.reporting.plan_lines.Goals as goal

pub returns-clause-planned : goal.returns-clause-planned
returns-clause-planned c = reported c.reported_of.result c.args.share_by c.args.octets.now c.in_ok-config.config c.in_ok-config.ensures.config
    (subst (λ (r : Rates). IfOk c.reported_of.result (λ _. HasShares r)) c.limits_of-limits.ensures.limits c.reported_of.ensures.shares)
