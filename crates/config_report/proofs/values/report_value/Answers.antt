use Rattle.std.proofs.Common.{ap, map, ◌≡◌, ◌∙◌, List}
use Rattle.serde_json.proofs.Views.{view-Array}
use Rattle.serde_json.specs.Data.{Data, array}
use Rattle.serde_json.specs.View.{items_of, view}
use Rattle.serde_json.specs.declared.value.Value.TheVariants.{Array}
use Rattle.config_report.specs.ReportData.{group_data, row_data, server_data, warning_data, whole_data}
use Rattle.config_report.proofs.values.report_value.Goals as goal

pub returns : goal.returns
returns c =
    let tables = c.args.tables.now in
    let version = tables.version in
    let groups = view-Array c.in_ok-stated.stated ∙ ap (λ (values : List Data). array (items_of values)) c.in_ok-stated.ensures.groups in
    let rows = view-Array c.in_ok-users.users ∙ ap (λ (values : List Data). array (items_of values)) c.in_ok-users.ensures.rows in
    let warnings = view-Array c.in_ok-reported.reported ∙ ap (λ (values : List Data). array (items_of values)) c.in_ok-reported.ensures.warnings in
    let first = ap (λ (d : Data). whole_data version d (view (Array c.in_ok-stated.stated)) (view (Array c.in_ok-users.users)) (view (Array c.in_ok-reported.reported))) c.in_ok-server.ensures.server in
    let second = ap (λ (d : Data). whole_data version (server_data tables) d (view (Array c.in_ok-users.users)) (view (Array c.in_ok-reported.reported))) groups in
    let third = ap (λ (d : Data). whole_data version (server_data tables) (array (items_of (map group_data c.args.groups.now))) d (view (Array c.in_ok-reported.reported))) rows in
    let fourth = ap (λ (d : Data). whole_data version (server_data tables) (array (items_of (map group_data c.args.groups.now))) (array (items_of (map row_data c.args.rows.now))) d) warnings in
    record {
      report = c.in_ok-value.ensures.whole ∙ first ∙ second ∙ third ∙ fourth;
    }
