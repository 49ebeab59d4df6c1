-- The report on a change as JSON: a value, whose members docs/configuration.md describes.
use Rattle.std.specs.Prelude.{ℕ, List, Option, Some, None, codes, if◌then◌else◌, is_some, map}
use Rattle.serde_json.specs.Data.{Data, array, boolean, member, no_members, null, object, string}
use Rattle.serde_json.specs.View.{items_of}
use Rattle.config_report.specs.ReportData.{count_data, masquerade_data, rate_data}
use Rattle.change_report.specs.Changes.{key_text, rate_text, setting_text}
use Rattle.change_report.specs.Lines.{is_unchanged}
use Rattle.change_report.specs.Reasons.{reason_text}
use Rattle.change_report.specs.declared.changes.Changes.{Changes}
use Rattle.change_report.specs.declared.limits.LimitChange.{LimitChange}
use Rattle.change_report.specs.declared.limits.Owner.{Owner}
use Rattle.change_report.specs.declared.limits.Owner.TheVariants as owner
use Rattle.change_report.specs.declared.names.NameChange.{NameChange}
use Rattle.change_report.specs.declared.names.NameChange.TheVariants as name
use Rattle.change_report.specs.declared.reason.Reason.{Reason}
use Rattle.change_report.specs.declared.settings.SettingChange.{SettingChange}
use Rattle.change_report.specs.declared.settings.SettingChange.TheVariants as setting

abbrev pub text_data : List ℕ → Data
text_data text = string text

-- ---- settings

abbrev pub pair_data : List ℕ → Data → Data → Data
pair_data key old new =
    object
    (member (codes "key") (string key)
    (member (codes "new") new (member (codes "old") old no_members)))

abbrev pub setting_data : SettingChange → Data
setting_data (setting.Text key old new) =
    pair_data (setting_text key) (text_data old.now) (text_data new.now)
setting_data (setting.Number key old new) =
    pair_data (setting_text key) (count_data old) (count_data new)
setting_data (setting.Flag key old new) =
    pair_data (setting_text key) (boolean old) (boolean new)
setting_data (setting.Address key old new) =
    pair_data (setting_text key) (masquerade_data old) (masquerade_data new)

-- ---- groups and users

abbrev pub name_row : List ℕ → List ℕ → List ℕ → Data → Data
name_row of name change key =
    object
    (member (codes "change") (string change)
    (member (codes "key") key
    (member (codes "name") (string name) (member (codes "of") (string of) no_members))))

abbrev pub name_data : NameChange → Data
name_data (name.GroupAdded group) = name_row (codes "group") group.now (codes "added") null
name_data (name.GroupTakenOut group) =
    name_row (codes "group") group.now (codes "taken out") null
name_data (name.UserAdded user) = name_row (codes "user") user.now (codes "added") null
name_data (name.UserTakenOut user) = name_row (codes "user") user.now (codes "taken out") null
name_data (name.UserChanged user key) =
    name_row (codes "user") user.now (codes "changed") (text_data (key_text key))

-- ---- rates and guarantees

abbrev pub limit_row : List ℕ → Data → LimitChange → Data
limit_row of name change =
    object
    (member (codes "key") (string (rate_text change.key))
    (member (codes "name") name
    (member (codes "new") (rate_data change.new)
    (member (codes "of") (string of)
    (member (codes "old") (rate_data change.old) no_members)))))

abbrev pub limit_by : Owner → LimitChange → Data
limit_by owner.Server change = limit_row (codes "server") null change
limit_by (owner.Group group) change = limit_row (codes "group") (text_data group.now) change
limit_by (owner.User user) change = limit_row (codes "user") (text_data user.now) change

abbrev pub limit_data : LimitChange → Data
limit_data change = limit_by change.owner change

-- ---- all

abbrev pub reason_data : Option Reason → Data
reason_data None = null
reason_data (Some reason) = text_data (reason_text reason)

abbrev pub outcome_word : Changes → List ℕ
outcome_word changes =
    if is_some changes.reason
    then codes "refused"
    else if is_unchanged changes then codes "nothing" else codes "taken"

-- the outcome of a reload, the reason of a refusal, and the rows; besides their unit, and the
-- version of this form
abbrev pub whole_data : List ℕ → Data → Data → Data → Data → Data
whole_data outcome reason settings names limits =
    object
    (member (codes "limits") limits
    (member (codes "names") names
    (member (codes "outcome") (string outcome)
    (member (codes "reason") reason
    (member (codes "settings") settings
    (member (codes "unit") (string (codes "octets a second"))
    (member (codes "version") (count_data 1) no_members)))))))

abbrev pub change_data : Changes → Data
change_data changes =
    whole_data (outcome_word changes) (reason_data changes.reason)
    (array (items_of (map setting_data changes.settings.items)))
    (array (items_of (map name_data changes.names.items)))
    (array (items_of (map limit_data changes.limits.items)))
