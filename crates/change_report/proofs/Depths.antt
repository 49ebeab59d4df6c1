-- The report on a change as JSON is not deep.
use Rattle.std.proofs.Common.{◌≡◌, ◌≤◌, ℕ, Bool, cond, true, false, List, [], ◌∷◌, Option, None, Some, map, arith, nat_eq, refl}
use Rattle.std.specs.declared.net.ipv4_addr.Ipv4Addr.{Ipv4Addr}
use Rattle.serde_json.specs.Data.{Data, depth, items_depth, null, number, unsigned}
use Rattle.serde_json.specs.View.{items_of}
use Rattle.config_report.specs.ReportData.{masquerade_data, rate_data}
use Rattle.change_report.specs.ChangeData.{change_data, limit_by, limit_data, name_data, reason_data, setting_data}
use Rattle.change_report.specs.declared.changes.Changes.{Changes}
use Rattle.change_report.specs.declared.limits.LimitChange.{LimitChange}
use Rattle.change_report.specs.declared.limits.Owner.{Owner}
use Rattle.change_report.specs.declared.limits.Owner.TheVariants as owner
use Rattle.change_report.specs.declared.names.NameChange.{NameChange}
use Rattle.change_report.specs.declared.names.NameChange.TheVariants as name
use Rattle.change_report.specs.declared.reason.Reason.{Reason}
use Rattle.change_report.specs.declared.settings.SettingChange.{SettingChange}
use Rattle.change_report.specs.declared.settings.SettingChange.TheVariants as setting

rate_depth : (rate : ℕ) → depth (rate_data rate) ≡ 0
rate_depth rate = go (nat_eq rate 0)
  where
    go : (b : Bool) → depth (cond b null (number (unsigned rate))) ≡ 0
    go true = refl
    go false = refl

address_depth : (address : Option Ipv4Addr) → depth (masquerade_data address) ≡ 0
address_depth None = refl
address_depth (Some address) = refl

reason_depth : (reason : Option Reason) → depth (reason_data reason) ≡ 0
reason_depth None = refl
reason_depth (Some reason) = refl

setting_depth : (change : SettingChange) → depth (setting_data change) ≤ 1
setting_depth (setting.Text key old new) = omega arith
setting_depth (setting.Number key old new) = omega arith
setting_depth (setting.Flag key old new) = omega arith
setting_depth (setting.Address key old new) = omega (arith, address_depth old, address_depth new)

name_depth : (change : NameChange) → depth (name_data change) ≤ 1
name_depth (name.GroupAdded group) = omega arith
name_depth (name.GroupTakenOut group) = omega arith
name_depth (name.UserAdded user) = omega arith
name_depth (name.UserTakenOut user) = omega arith
name_depth (name.UserChanged user key) = omega arith

limit_depth : (change : LimitChange) → depth (limit_data change) ≤ 1
limit_depth change = go change.owner
  where
    go : (whose : Owner) → depth (limit_by whose change) ≤ 1
    go owner.Server = omega (arith, rate_depth change.old, rate_depth change.new)
    go (owner.Group group) = omega (arith, rate_depth change.old, rate_depth change.new)
    go (owner.User user) = omega (arith, rate_depth change.old, rate_depth change.new)

-- values of a list that are not deep
shallow : {X : Type 0} (data_of : X → Data) (most : ℕ) → ((x : X) → depth (data_of x) ≤ most) → (xs : List X) → items_depth (items_of (map data_of xs)) ≤ most
shallow data_of most each [] = omega arith
shallow data_of most each (x ∷ xs) =
    let one = each x in
    let more = shallow data_of most each xs in
    omega (arith, one, more)

pub change_depth : (changes : Changes) → depth (change_data changes) ≤ 127
change_depth changes =
    let settings = shallow setting_data 1 setting_depth changes.settings.items in
    let names = shallow name_data 1 name_depth changes.names.items in
    let limits = shallow limit_data 1 limit_depth changes.limits.items in
    omega (arith, settings, names, limits, reason_depth changes.reason)
