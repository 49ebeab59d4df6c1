-- Transfers are planned by the rates of the configuration that was read.
use Rattle.std.proofs.Common.{◌≡◌, IfOk, List, ℕ, Some, Result, Ok, Err}
use Rattle.toml.specs.Data.{Members}
use Rattle.toml.specs.Parse.{parse_document}
use Rattle.config_file.specs.Tables.{IsTables}
use Rattle.config_file.specs.declared.tables.Tables.{Tables}
use Rattle.line_rates.specs.Rates.{shared_by}
use Rattle.line_rates.specs.declared.share_by.ShareBy.{ShareBy}
use Rattle.server_config.specs.Configs.{IsConfigText}
use Rattle.server_config.specs.declared.config.Config.{Config}
use Rattle.plan_report.specs.Reports.{HasShares, IsPlanJson, IsPlanReport, IsPlanText}

pub reported : {T E : Type 0} (r : Result T E) (by : ShareBy) (octets : List ℕ) (config : Config) → IsConfigText octets config → IfOk r (λ _. HasShares (shared_by by config.limits)) → IfOk r (λ _. IsPlanReport by octets)
reported (Ok x) by octets config read shares = record { config = config; read = read; shares = shares }
reported (Err e) by octets config read shares = shares

-- The JSON has the plan by the tables of the document that was read.
pub reported_plan : {T E : Type 0} (bytes : T → List ℕ) (r : Result T E) (by : ShareBy) (octets : List ℕ) (config : Config) (document : Members) (tables : Tables) → IsConfigText octets config → parse_document octets ≡ Some document
    → IsTables document tables → IfOk r (λ text. IsPlanText tables (shared_by by config.limits) (bytes text)) → IfOk r (λ text. IsPlanJson by octets (bytes text))
reported_plan bytes (Ok x) by octets config document tables read parsed stated plan =
    record { config = config; configured = read; document = document; parsed = parsed; tables = tables; stated = stated; plan = plan }
reported_plan bytes (Err e) by octets config document tables read parsed stated plan = plan
