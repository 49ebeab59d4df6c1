use Rattle.std.proofs.Common.{ap, ◌≡◌, ◌∙◌}
use Rattle.serde_json.specs.Data.{Data}
use Rattle.serde_json.specs.View.{view}
use Rattle.config_report.specs.ReportData.{address_data, connections_data, limits_data, members_data, rates_data}
use Rattle.config_report.proofs.values.server_value.Goals as goal

pub returns : goal.returns
returns c =
    let tables = c.args.tables.now in
    let server = tables.server in
    let connections = view c.in_ok-connections.connections in
    let limits = view c.in_ok-limits.limits in
    let rates = view c.in_ok-rates.rates in
    let store = view c.in_ok-store.store in
    let first = ap (λ (d : Data). members_data server d connections limits rates store) c.in_ok-address.ensures.address in
    let second = ap (λ (d : Data). members_data server (address_data server.address) d limits rates store) c.in_ok-connections.ensures.connections in
    let third = ap (λ (d : Data). members_data server (address_data server.address) (connections_data server) d rates store) c.in_ok-limits.ensures.limits in
    let fourth = ap (λ (d : Data). members_data server (address_data server.address) (connections_data server) (limits_data server) d store) c.in_ok-rates.ensures.rates in
    let fifth = ap (λ (d : Data). members_data server (address_data server.address) (connections_data server) (limits_data server) (rates_data server) d) c.in_ok-store.ensures.store in
    record {
      server = c.in_ok-value.ensures.server ∙ first ∙ second ∙ third ∙ fourth ∙ fifth;
    }
