-- What the parts of a configuration are made of, seen from the tables.
use Rattle.std.proofs.Common.{◌≡◌, List, Result, Ok, Err, IfOk, ap, subst, ◌∙◌}
use Rattle.line_rates.specs.Rates.{Rates}
use Rattle.line_rates.specs.Stated.{stated}
use Rattle.line_rates.specs.declared.row.GroupRate.{GroupRate}
use Rattle.line_rates.specs.declared.row.UserRate.{UserRate}
use Rattle.toml.specs.Data.{Members}
use Rattle.server_config.specs.RateRows.{group_rows, user_rows, rates_of}
use Rattle.config_file.specs.declared.stated.ServerTable.{ServerTable}
use Rattle.config_file.specs.Tables.{IsTables}
use Rattle.config_file.specs.declared.stated.GroupTable.{GroupTable}
use Rattle.config_file.specs.declared.stated.UserTable.{UserTable}
use Rattle.config_file.specs.declared.tables.Tables.{Tables}
use Rattle.server_config.specs.Configs.{IsMadeOf, IsConfig}
use Rattle.server_config.specs.declared.config.Config.{Config}
use Rattle.server_config.specs.declared.fault.ConfigFault.{ConfigFault}

pub moved : {A B : Type 0} (P : A → B → Type 0) (a x : A) (b y : B) → a ≡ x → b ≡ y → P a b → P x y
moved P a x b y p q is = subst (λ t. P t y) p (subst (λ u. P a u) q is)

pub moved_all : {A B C : Type 0} (P : A → B → C → Type 0) (a x : A) (b y : B) (d z : C) → a ≡ x → b ≡ y → d ≡ z → P a b d → P x y z
moved_all P a x b y d z p q r is = subst (λ t. P t y z) p (subst (λ u. P a u z) q (subst (λ v. P a b v) r is))

pub limits_made : (server : ServerTable) (gs groups : List GroupTable) (us users : List UserTable) (group_rates : List GroupRate) (user_rates : List UserRate) (limits : Rates)
    → gs ≡ groups → us ≡ users → group_rates ≡ group_rows gs → user_rates ≡ user_rows gs us → limits ≡ stated server.rate server.down_rate server.up_rate group_rates user_rates
    → limits ≡ rates_of server groups users
limits_made server gs groups us users group_rates user_rates limits same_groups same_users grouped rated is =
    is
    ∙ ap (λ (rs : List GroupRate). stated server.rate server.down_rate server.up_rate rs user_rates) (grouped ∙ ap (λ (g : List GroupTable). group_rows g) same_groups)
    ∙ ap (λ (rs : List UserRate). stated server.rate server.down_rate server.up_rate (group_rows groups) rs)
    (rated ∙ ap (λ (g : List GroupTable). user_rows g us) same_groups ∙ ap (λ (u : List UserTable). user_rows groups u) same_users)

pub config_made : (document : Members) (tables : Tables) (answer : Result Config ConfigFault) → IsTables document tables → IfOk answer (IsMadeOf tables) → IfOk answer (IsConfig document)
config_made document tables (Ok config) stated made = (tables, stated, made)
config_made document tables (Err fault) stated made = tt
