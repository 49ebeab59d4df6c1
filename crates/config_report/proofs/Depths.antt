-- The report as JSON is not deep.
use Rattle.std.proofs.Common.{◌≡◌, ◌≤◌, ℕ, Bool, cond, true, false, List, [], ◌∷◌, Option, None, Some, map, arith, nat_eq, refl}
use Rattle.std.specs.declared.net.ipv4_addr.Ipv4Addr.{Ipv4Addr}
use Rattle.serde_json.specs.Data.{Data, array, depth, items_depth, null, number, unsigned}
use Rattle.serde_json.specs.View.{items_of}
use Rattle.config_file.specs.declared.stated.GroupTable.{GroupTable}
use Rattle.config_file.specs.declared.stated.OverrideTable.{OverrideTable}
use Rattle.config_file.specs.declared.stated.ServerTable.{ServerTable}
use Rattle.config_file.specs.declared.stated.UserTable.{UserTable}
use Rattle.config_file.specs.declared.tables.Tables.{Tables}
use Rattle.server_config.specs.Settings.{reported_address}
use Rattle.config_report.specs.ReportData.{address_data, announced_data, group_data, masquerade_data, name_data, override_data, rate_data, report_data, row_data, user_rates_data, warning_data}
use Rattle.config_report.specs.Warnings.{is_unreported}
use Rattle.config_report.specs.declared.seen.SeenUser.{SeenUser}
use Rattle.config_report.specs.declared.warning.Warning.{Warning}
use Rattle.std.specs.Borrow.{Bor}

rate_depth : (rate : ℕ) → depth (rate_data rate) ≡ 0
rate_depth rate = go (nat_eq rate 0)
  where
    go : (b : Bool) → depth (cond b null (number (unsigned rate))) ≡ 0
    go true = refl
    go false = refl

announced_depth : (server : ServerTable) → depth (announced_data server) ≡ 0
announced_depth server = go (is_unreported server)
  where
    go : (b : Bool) → depth (cond b null (address_data (reported_address server.masquerade_address server.address))) ≡ 0
    go true = refl
    go false = refl

masquerade_depth : (address : Option Ipv4Addr) → depth (masquerade_data address) ≡ 0
masquerade_depth None = refl
masquerade_depth (Some address) = refl

name_depth : (name : Option (Bor (List ℕ))) → depth (name_data name) ≡ 0
name_depth None = refl
name_depth (Some name) = refl

group_depth : (group : GroupTable) → depth (group_data group) ≤ 1
group_depth group = omega (arith, rate_depth group.down_rate, rate_depth group.up_rate)

override_depth : (rule : OverrideTable) → depth (override_data rule) ≤ 1
override_depth rule = omega arith

rates_depth : (user : UserTable) → depth (user_rates_data user) ≤ 1
rates_depth user =
    omega (
      arith,
      rate_depth user.down_rate,
      rate_depth user.session_down_floor,
      rate_depth user.session_down_rate,
      rate_depth user.session_up_floor,
      rate_depth user.session_up_rate,
      rate_depth user.up_rate,
    )

-- values of a list that are not deep
shallow : {X : Type 0} (data_of : X → Data) (most : ℕ) → ((x : X) → depth (data_of x) ≤ most) → (xs : List X) → items_depth (items_of (map data_of xs)) ≤ most
shallow data_of most each [] = omega arith
shallow data_of most each (x ∷ xs) =
    let one = each x in
    let more = shallow data_of most each xs in
    omega (arith, one, more)

row_depth : (row : SeenUser) → depth (row_data row) ≤ 3
unfolding row_data
row_depth row =
    let rules = shallow override_data 1 override_depth row.overrides.now in
    omega (arith, rules, name_depth row.user.now.group, rates_depth row.user.now)

warning_depth : (warning : Warning) → depth (warning_data warning) ≤ 0
warning_depth warning = omega arith

pub report_depth : (tables : Tables) (groups : List GroupTable) (rows : List SeenUser) (warnings : List Warning) → depth (report_data tables groups rows warnings) ≤ 127
report_depth tables groups rows warnings =
    let stated = shallow group_data 1 group_depth groups in
    let users = shallow row_data 3 row_depth rows in
    let reported = shallow warning_data 0 warning_depth warnings in
    omega (
      arith,
      stated,
      users,
      reported,
      announced_depth tables.server,
      masquerade_depth tables.server.masquerade_address,
      rate_depth tables.server.rate,
      rate_depth tables.server.down_rate,
      rate_depth tables.server.up_rate,
    )
