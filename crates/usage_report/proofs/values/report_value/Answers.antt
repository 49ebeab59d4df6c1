use Rattle.std.proofs.Common.{ap, map, ◌∙◌, List}
use Rattle.serde_json.proofs.Views.{view-Array}
use Rattle.serde_json.specs.Data.{Data, array}
use Rattle.serde_json.specs.View.{items_of, view}
use Rattle.serde_json.specs.declared.value.Value.TheVariants.{Array}
use Rattle.usage_report.specs.ReportData.{day_data, log_data, row_data, whole_data}
use Rattle.usage_report.proofs.values.report_value.Goals as goal

pub returns : goal.returns
returns c =
    let report = c.args.report.now in
    let whole = whole_data report.ask report.in_all in
    let logs = view-Array c.in_ok-logs.logs ∙ ap (λ (values : List Data). array (items_of values)) c.in_ok-logs.ensures.logs in
    let rows = view-Array c.in_ok-rows.rows ∙ ap (λ (values : List Data). array (items_of values)) c.in_ok-rows.ensures.rows in
    let shown = array (items_of (map log_data report.logs.now)) in
    let first = ap (λ (d : Data). whole d (view (Array c.in_ok-logs.logs)) (view (Array c.in_ok-rows.rows)) (view c.in_ok-total.total)) c.in_ok-day.ensures.day in
    let second = ap (λ (d : Data). whole (day_data report.ask.day) d (view (Array c.in_ok-rows.rows)) (view c.in_ok-total.total)) logs in
    let third = ap (λ (d : Data). whole (day_data report.ask.day) shown d (view c.in_ok-total.total)) rows in
    let fourth = ap (λ (d : Data). whole (day_data report.ask.day) shown (array (items_of (map row_data report.shown.now))) d) c.in_ok-total.ensures.sums in
    record { report = c.in_ok-value.ensures.whole ∙ first ∙ second ∙ third ∙ fourth }
