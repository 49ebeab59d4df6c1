use Rattle.std.proofs.Common.{length, refl}
use Rattle.std.proofs.lemmas.Result.{IfOk-weaker}
use Rattle.usage_report.proofs.reporting.ranked_report.Goals as goal

pub returns : goal.returns
returns c = record {
  text = IfOk-weaker c.report_text.result _ _ (λ text said. record { report = record { ask = c.args.ask; shown = c.first_rows.result; in_all = length c.args.rows.now; total = c.args.total; logs = c.args.logs }; asked = refl; shown = c.first_rows.ensures.first; in_all = refl; total_of = refl; logs_of = refl; said = said }) c.report_text.ensures.text;
}
