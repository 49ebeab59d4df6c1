-- The plan of a configuration. It is proved that a plan of some transfers is printed from shares
-- that are fair, and that the JSON has these shares; which transfers a word states, and the lines,
-- are only tested.
use Rattle.std.specs.Prelude.{◌≡◌, ◌++◌, ℕ, List, [], ◌∷◌, Some}
use Rattle.serde_json.specs.Data.{Data}
use Rattle.serde_json.specs.Read.{read}
use Rattle.toml.specs.Data.{Members}
use Rattle.toml.specs.Parse.{parse_document}
use Rattle.config_file.specs.Tables.{IsTables}
use Rattle.config_file.specs.declared.tables.Tables.{Tables}
use Rattle.rate_plan.specs.Plan.{IsPlanned}
use Rattle.rate_plan.specs.declared.asks.Transfer.{Transfer}
use Rattle.rate_plan.specs.declared.shares.TransferShare.{TransferShare}
use Rattle.line_rates.specs.Rates.{Rates, shared_by}
use Rattle.line_rates.specs.declared.share_by.ShareBy.{ShareBy}
use Rattle.server_config.specs.Configs.{IsConfigText}
use Rattle.server_config.specs.Refused.{IsFaultOfText}
use Rattle.server_config.specs.declared.config.Config.{Config}
use Rattle.plan_report.specs.PlanData.{IsPlanData}
use Rattle.plan_report.specs.declared.fault.NoPlan.{NoPlan}
use Rattle.plan_report.specs.declared.fault.NoPlan.TheVariants.{Config as Unread, Transfers, Memory}

-- transfers are planned by these rates, for some numbers of sessions and lanes
pub record HasShares (rates : Rates) : Type 0 where
  pub sessions : ℕ
  pub lanes : ℕ
  pub transfers : List Transfer
  pub shares : List TransferShare
  pub planned : IsPlanned rates sessions lanes transfers shares

-- the text has a configuration, by whose rates transfers are planned on a line that is shared among
-- these
pub record IsPlanReport (by : ShareBy) (octets : List ℕ) : Type 0 where
  pub config : Config
  pub read : IsConfigText octets config
  pub shares : HasShares (shared_by by config.limits)

-- these are the shares of some transfers, planned by these rates
abbrev pub ArePlanned : Rates → List TransferShare → Type 0
ArePlanned rates shares =
    (sessions lanes : ℕ) × (transfers : List Transfer)
    × IsPlanned rates sessions lanes transfers shares

-- a text of JSON and a line feed; the JSON has the plan of some transfers by these rates, with the
-- names of these tables
pub record IsPlanText (tables : Tables) (rates : Rates) (text : List ℕ) : Type 0 where
  pub shares : List TransferShare
  pub planned : ArePlanned rates shares
  pub json : List ℕ
  pub ends : text ≡ json ++ 10 ∷ []
  pub value : Data
  pub reads : read json ≡ Some value
  pub has : IsPlanData tables shares value

-- the octets have a configuration, and the text has the plan of some transfers by its rates, with
-- the names that its tables state
pub record IsPlanJson (by : ShareBy) (octets text : List ℕ) : Type 0 where
  pub config : Config
  pub configured : IsConfigText octets config
  pub document : Members
  pub parsed : parse_document octets ≡ Some document
  pub tables : Tables
  pub stated : IsTables document tables
  pub plan : IsPlanText tables (shared_by by config.limits) text

-- the configuration is refused for that fault
abbrev pub IsNoPlan : List ℕ → NoPlan → Type 0
IsNoPlan octets (Unread fault) = IsFaultOfText octets fault
IsNoPlan octets (Transfers name reported) = Unit {0}
IsNoPlan octets Memory = Unit {0}

-- the same, if the configuration was read
abbrev pub IsNoPlanOf : NoPlan → Type 0
IsNoPlanOf (Unread fault) = ⊥
IsNoPlanOf (Transfers name reported) = Unit {0}
IsNoPlanOf Memory = Unit {0}
