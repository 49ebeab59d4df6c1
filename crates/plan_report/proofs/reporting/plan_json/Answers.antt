use Rattle.std.proofs.Common.{IfOk, string_bytes, subst}
use Rattle.toml.specs.View.{table_view}
use Rattle.line_rates.specs.Rates.{Rates}
use Rattle.plan_report.specs.Reports.{IsPlanText}
use Rattle.plan_report.proofs.Reported.{reported_plan}
use Rattle.plan_report.proofs.reporting.plan_json.Goals as goal

pub returns-clause-planned : goal.returns-clause-planned
returns-clause-planned c =
    reported_plan (λ text. string_bytes text) c.json_of.result c.args.share_by c.args.octets.now c.in_ok-config.config (table_view c.in-Ok.document) c.in-Ok-read_tables.tables c.in_ok-config.ensures.config
    c.in-Ok.ensures.ok.1 c.in-Ok-read_tables.ensures.tables
    (subst (λ (r : Rates). IfOk c.json_of.result (λ text. IsPlanText c.in-Ok-read_tables.tables r (string_bytes text))) c.limits_of-limits.ensures.limits c.json_of.ensures.plan)
