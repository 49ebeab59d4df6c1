-- Rates that cannot be kept under the numbers of a server.
use Rattle.std.proofs.Common.{◌≡◌, ◌∙◌, ℕ, List, Option, Ok, sym}
use Rattle.authorizer.specs.Users.{Accounts}
use Rattle.authorizer.specs.Renumbered.{renumbered, regrouped}
use Rattle.line_rates.specs.Stated.{limits_fault}
use Rattle.line_rates.specs.declared.fault.LimitsFault.{LimitsFault}
use Rattle.config_change.specs.Named.{group_rows}
use Rattle.config_change.specs.Renumbered.{group_places, rows_after, IsLimitsFault, IsRefused}
use Rattle.config_change.specs.declared.fault.RenumberFault.{RenumberFault}
use Rattle.config_change.specs.declared.fault.RenumberFault.TheVariants.{NoNumber, Limits, Memory}
use Rattle.server_config.specs.declared.config.Config.{Config}

abbrev pub found_in : Config → List (List ℕ) → Accounts → Option LimitsFault
found_in config old_groups users =
    limits_fault config.limits.server config.limits.down config.limits.up (group_rows config.limits 0 (group_places old_groups config)) (rows_after old_groups config users)

pub refused_by : (config : Config) (old_users : Accounts) (old_groups : List (List ℕ)) (kept : Accounts) (found : Option LimitsFault) (fault : RenumberFault)
    → renumbered config.users old_users ≡ Ok kept → found ≡ found_in config old_groups (regrouped (group_places old_groups config) kept) → IsLimitsFault found fault
    → IsRefused config old_users old_groups fault
refused_by config old_users old_groups kept found NoNumber keeps same is = absurd is
refused_by config old_users old_groups kept found (Limits fault) keeps same is = (kept, keeps, sym same ∙ is)
refused_by config old_users old_groups kept found Memory keeps same is = tt
