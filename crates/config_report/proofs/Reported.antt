-- A report, seen from the text of its configuration.
use Rattle.std.proofs.Common.{ℕ, List, Result, Ok, Err, IfOk, String, Global, string_bytes}
use Rattle.line_rates.specs.declared.share_by.ShareBy.{ShareBy}
use Rattle.server_config.specs.Configs.{IsConfigText}
use Rattle.server_config.specs.declared.config.Config.{Config}
use Rattle.server_config.specs.declared.fault.ConfigFault.{ConfigFault}
use Rattle.config_report.specs.Looks.{Shown}
use Rattle.config_report.specs.Reports.{IsPartOf, IsReport}
use Rattle.config_report.specs.declared.reporting.Part.{Part}

pub reported : (part : Part) (by : ShareBy) (shown : Shown) (path octets : List ℕ) (config : Config) (answer : Result (String Global) ConfigFault) → IsConfigText octets config
    → IfOk answer (λ text. IsReport part by shown path octets config.store (string_bytes text)) → IfOk answer (λ text. IsPartOf part by shown path octets (string_bytes text))
reported part by shown path octets config (Ok text) is found = (config, is, found)
reported part by shown path octets config (Err fault) is found = tt
