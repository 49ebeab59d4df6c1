use Rattle.std.proofs.Common.{ap, map, ◌≡◌, ◌∙◌, List}
use Rattle.serde_json.proofs.Views.{view-Array}
use Rattle.serde_json.specs.Data.{Data, array}
use Rattle.serde_json.specs.View.{items_of, view}
use Rattle.serde_json.specs.declared.value.Value.TheVariants.{Array}
use Rattle.config_report.specs.ReportData.{override_data, row_data, user_data, user_rates_data, name_data}
use Rattle.config_report.proofs.values.row_value.Goals as goal

pub returns : goal.returns
unfolding row_data
returns c =
    let row = c.args.row.now in
    let rules : view (Array c.in_ok-overrides.overrides) ≡ array (items_of (map override_data row.overrides.now)) =
    view-Array c.in_ok-overrides.overrides ∙ ap (λ (values : List Data). array (items_of values)) c.in_ok-overrides.ensures.rules in
    let first = ap (λ (d : Data). user_data row.user.now d (view (Array c.in_ok-overrides.overrides)) (view c.in_ok-rates.rates)) c.in_ok-group.ensures.name in
    let second = ap (λ (d : Data). user_data row.user.now (name_data row.user.now.group) d (view c.in_ok-rates.rates)) rules in
    let third = ap (λ (d : Data). user_data row.user.now (name_data row.user.now.group) (array (items_of (map override_data row.overrides.now))) d) c.in_ok-rates.ensures.rates in
    record {
      row = c.in_ok-value.ensures.user ∙ first ∙ second ∙ third;
    }
