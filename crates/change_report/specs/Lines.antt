-- The lines of the report on a change.
use Rattle.std.specs.Prelude.{ℕ, Bool, true, false, ◌&&◌, if◌then◌else◌, nat_eq, List, [], ◌∷◌, ◌++◌, codes, length, Option, Some, None}
use Rattle.std.specs.Fmt.{decimal}
use Rattle.std.specs.List.{flat_map}
use Rattle.std.specs.Net.Addr.{ipv4_octets}
use Rattle.std.specs.Net.Text.{ipv4_text}
use Rattle.std.specs.declared.net.ipv4_addr.Ipv4Addr.{Ipv4Addr}
use Rattle.rate_columns.specs.Columns.{left, right}
use Rattle.rate_columns.specs.Rates.{megabits_column, rate_column}
use Rattle.change_report.specs.Changes.{key_text, rate_text, setting_text, start_text, when_text}
use Rattle.change_report.specs.Reasons.{reason_text}
use Rattle.change_report.specs.declared.changes.Changes.{Changes}
use Rattle.change_report.specs.declared.limits.LimitChange.{LimitChange}
use Rattle.change_report.specs.declared.limits.Owner.{Owner}
use Rattle.change_report.specs.declared.limits.Owner.TheVariants as owner
use Rattle.change_report.specs.declared.names.NameChange.{NameChange}
use Rattle.change_report.specs.declared.names.NameChange.TheVariants as name
use Rattle.change_report.specs.declared.names.TermKey.{TermKey}
use Rattle.change_report.specs.declared.reason.Reason.{Reason}
use Rattle.change_report.specs.declared.settings.SettingChange.{SettingChange}
use Rattle.change_report.specs.declared.settings.SettingChange.TheVariants as setting
use Rattle.change_report.specs.declared.settings.SettingKey.{SettingKey}

-- ---- what becomes of a reload

-- nothing differs, except for what a server refuses
abbrev pub is_unchanged : Changes → Bool
is_unchanged changes =
    nat_eq (length changes.settings.items) 0
    && (nat_eq (length changes.names.items) 0 && nat_eq (length changes.limits.items) 0)

abbrev pub refused_line : Reason → List ℕ
refused_line reason = codes "a reload would be refused: " ++ reason_text reason ++ 10 ∷ []

abbrev pub taken_line : Bool → List ℕ
taken_line true = codes "a reload would change nothing" ++ 10 ∷ []
taken_line false =
    codes "a reload would be taken, unless the sessions of connected clients "
    ++ codes "were guaranteed more than a rate" ++ 10 ∷ []

abbrev pub outcome_by : Option Reason → Bool → List ℕ
outcome_by None same = taken_line same
outcome_by (Some reason) same = refused_line reason

abbrev pub outcome_line : Changes → List ℕ
outcome_line changes = outcome_by changes.reason (is_unchanged changes)

-- ---- settings

abbrev pub address_text : Option Ipv4Addr → List ℕ
address_text None = codes "none"
address_text (Some address) = ipv4_text (ipv4_octets address)

abbrev pub flag_text : Bool → List ℕ
flag_text true = codes "true"
flag_text false = codes "false"

-- a key with its values before and after
abbrev pub becomes_line : SettingKey → List ℕ → List ℕ → List ℕ
becomes_line key old new =
    setting_text key ++ codes ": " ++ old ++ codes " becomes " ++ new ++ start_text key ++ 10 ∷ []

abbrev pub setting_line : SettingChange → List ℕ
setting_line (setting.Text key old new) = becomes_line key old.now new.now
setting_line (setting.Number key old new) = becomes_line key (decimal old) (decimal new)
setting_line (setting.Flag key old new) = becomes_line key (flag_text old) (flag_text new)
setting_line (setting.Address key old new) =
    becomes_line key (address_text old) (address_text new)

-- ---- groups and users

abbrev pub term_line : List ℕ → TermKey → List ℕ
term_line user key =
    codes "user " ++ user ++ codes ": " ++ key_text key ++ codes " changes " ++ when_text key
    ++ 10 ∷ []

-- the consequence for a user who is taken out
abbrev pub removal_text : List ℕ
removal_text =
    codes " is taken out, and its sessions end"

abbrev pub removal_line : List ℕ → List ℕ
removal_line user = codes "user " ++ user ++ removal_text ++ 10 ∷ []

abbrev pub name_line : NameChange → List ℕ
name_line (name.GroupAdded group) = codes "group " ++ group.now ++ codes " is added" ++ 10 ∷ []
name_line (name.GroupTakenOut group) =
    codes "group " ++ group.now ++ codes " is taken out" ++ 10 ∷ []
name_line (name.UserAdded user) = codes "user " ++ user.now ++ codes " is added" ++ 10 ∷ []
name_line (name.UserTakenOut user) = removal_line user.now
name_line (name.UserChanged user key) = term_line user.now key

-- ---- rates and guarantees

abbrev pub owner_column : Owner → List ℕ
owner_column owner.Server = left 24 (codes "server")
owner_column (owner.Group group) = codes "group " ++ left 18 group.now
owner_column (owner.User user) = codes "user " ++ left 19 user.now

abbrev pub key_column : List ℕ → List ℕ
key_column key = codes " " ++ left 19 key

abbrev pub limit_line : LimitChange → List ℕ
limit_line change =
    owner_column change.owner ++ key_column (rate_text change.key) ++ rate_column change.old
    ++ rate_column change.new ++ megabits_column change.old ++ megabits_column change.new ++ 10 ∷ []

abbrev pub octets_head : List ℕ
octets_head =
    10 ∷ left 24 (codes "octets a second") ++ codes " " ++ left 19 (codes "key")
    ++ right 14 (codes "is") ++ right 14 (codes "becomes")

abbrev pub megabits_head : List ℕ
megabits_head = right 12 (codes "Mbit/s is") ++ right 12 (codes "becomes") ++ 10 ∷ []

abbrev pub table_head : List ℕ
table_head = octets_head ++ megabits_head

abbrev pub rates_table : List LimitChange → List ℕ
rates_table changes =
    if nat_eq (length changes) 0 then [] else table_head ++ flat_map limit_line changes

-- ---- all

abbrev pub lines_text : Changes → List ℕ
lines_text changes =
    outcome_line changes ++ flat_map setting_line changes.settings.items
    ++ flat_map name_line changes.names.items ++ rates_table changes.limits.items
