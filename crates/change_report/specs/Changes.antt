-- The differences of two configurations: settings, rates and guarantees that have another value,
-- groups and users that only one of the two has, and users whose terms differ. Groups and users are
-- the same if their names are.
use Rattle.std.specs.Prelude.{ℕ, Bool, true, false, ◌&&◌, ◌||◌, cond, if◌then◌else◌, nat_eq, List, [], ◌∷◌, ◌++◌, bytes_eq, codes, Option, Some, None, Vec}
use Rattle.std.specs.Borrow.{Bor}
use Rattle.std.specs.List.{flat_map}
use Rattle.std.specs.Net.Addr.{ipv4_bits}
use Rattle.std.specs.declared.alloc.Global.{Global}
use Rattle.std.specs.declared.net.ipv4_addr.Ipv4Addr.{Ipv4Addr}
use Rattle.config_file.specs.declared.stated.GroupTable.{GroupTable}
use Rattle.config_file.specs.declared.stated.OverrideTable.{OverrideTable}
use Rattle.config_file.specs.declared.stated.ServerTable.{ServerTable}
use Rattle.config_file.specs.declared.stated.UserTable.{UserTable}
use Rattle.config_file.specs.declared.tables.Tables.{Tables}
use Rattle.change_report.specs.declared.limits.LimitChange.{LimitChange}
use Rattle.change_report.specs.declared.limits.Owner.{Owner}
use Rattle.change_report.specs.declared.limits.Owner.TheVariants as owner
use Rattle.change_report.specs.declared.limits.RateKey.{RateKey}
use Rattle.change_report.specs.declared.limits.RateKey.TheVariants as rate
use Rattle.change_report.specs.declared.names.NameChange.{NameChange}
use Rattle.change_report.specs.declared.names.NameChange.TheVariants as name
use Rattle.change_report.specs.declared.names.TermKey.{TermKey}
use Rattle.change_report.specs.declared.names.TermKey.TheVariants as term
use Rattle.change_report.specs.declared.settings.SettingChange.{SettingChange}
use Rattle.change_report.specs.declared.settings.SettingChange.TheVariants as setting
use Rattle.change_report.specs.declared.settings.SettingKey.{SettingKey}
use Rattle.change_report.specs.declared.settings.SettingKey.TheVariants as key

-- ---- settings

abbrev pub same_flag : Bool → Bool → Bool
same_flag true true = true
same_flag false false = true
same_flag true false = false
same_flag false true = false

abbrev pub same_address : Option Ipv4Addr → Option Ipv4Addr → Bool
same_address None None = true
same_address None (Some new) = false
same_address (Some old) None = false
same_address (Some old) (Some new) = nat_eq (ipv4_bits old) (ipv4_bits new)

-- each of these: the key with both values, if they differ

abbrev pub text_change : SettingKey → Bor (List ℕ) → Bor (List ℕ) → List SettingChange
text_change key old new = if bytes_eq old.now new.now then [] else setting.Text key old new ∷ []

abbrev pub number_change : SettingKey → ℕ → ℕ → List SettingChange
number_change key old new = if nat_eq old new then [] else setting.Number key old new ∷ []

abbrev pub flag_change : SettingKey → Bool → Bool → List SettingChange
flag_change key old new = if same_flag old new then [] else setting.Flag key old new ∷ []

abbrev pub address_change : SettingKey → Option Ipv4Addr → Option Ipv4Addr → List SettingChange
address_change key old new =
    if same_address old new then [] else setting.Address key old new ∷ []

abbrev pub access_changes : ServerTable → ServerTable → List SettingChange
access_changes old new =
    text_change key.Banner old.banner new.banner
    ++ flag_change key.PermitForeignAddresses old.permit_foreign_addresses
    new.permit_foreign_addresses
    ++ flag_change key.PermitPrivilegedPorts old.permit_privileged_ports
    new.permit_privileged_ports
    ++ address_change key.MasqueradeAddress old.masquerade_address new.masquerade_address

abbrev pub count_changes : ServerTable → ServerTable → List SettingChange
count_changes old new =
    number_change key.MaxCons old.max_cons new.max_cons
    ++ number_change key.MaxConsPerAddress old.max_cons_per_address new.max_cons_per_address
    ++ number_change key.MaxLoginAttempts old.max_login_attempts new.max_login_attempts

abbrev pub setting_changes : ServerTable → ServerTable → List SettingChange
setting_changes old new =
    access_changes old new ++ count_changes old new
    ++ number_change key.Sessions old.sessions new.sessions

-- ---- groups and users by their names

abbrev pub group_named : List GroupTable → List ℕ → Option GroupTable
group_named [] wanted = None
group_named (group ∷ groups) wanted =
    cond (bytes_eq group.name.now wanted) (Some group) (group_named groups wanted)

abbrev pub user_named : List UserTable → List ℕ → Option UserTable
user_named [] wanted = None
user_named (user ∷ users) wanted =
    cond (bytes_eq user.name.now wanted) (Some user) (user_named users wanted)

-- the overrides of the user of a name
abbrev pub rules_named : List UserTable → List (Vec OverrideTable Global) → List ℕ
    → List OverrideTable
rules_named [] overrides wanted = []
rules_named (user ∷ users) [] wanted = []
rules_named (user ∷ users) (rules ∷ overrides) wanted =
    cond (bytes_eq user.name.now wanted) rules.items (rules_named users overrides wanted)

-- ---- rates and guarantees

-- a rate with both values, if they differ
abbrev pub rate_change : Owner → RateKey → ℕ → ℕ → List LimitChange
rate_change whose which before after =
    if nat_eq before after
    then []
    else record { owner = whose; key = which; old = before; new = after } ∷ []

abbrev pub server_limits : ServerTable → ServerTable → List LimitChange
server_limits old new =
    rate_change owner.Server rate.Rate old.rate new.rate
    ++ rate_change owner.Server rate.DownRate old.down_rate new.down_rate
    ++ rate_change owner.Server rate.UpRate old.up_rate new.up_rate

abbrev pub group_limits : GroupTable → GroupTable → List LimitChange
group_limits old new =
    rate_change (owner.Group new.name) rate.DownRate old.down_rate new.down_rate
    ++ rate_change (owner.Group new.name) rate.UpRate old.up_rate new.up_rate

abbrev pub own_limits : UserTable → UserTable → List LimitChange
own_limits old new =
    rate_change (owner.User new.name) rate.DownRate old.down_rate new.down_rate
    ++ rate_change (owner.User new.name) rate.UpRate old.up_rate new.up_rate

abbrev pub session_limits : UserTable → UserTable → List LimitChange
session_limits old new =
    rate_change (owner.User new.name) rate.SessionDownRate old.session_down_rate
    new.session_down_rate
    ++ rate_change (owner.User new.name) rate.SessionUpRate old.session_up_rate
    new.session_up_rate
    ++ rate_change (owner.User new.name) rate.SessionDownFloor old.session_down_floor
    new.session_down_floor
    ++ rate_change (owner.User new.name) rate.SessionUpFloor old.session_up_floor
    new.session_up_floor

abbrev pub user_limits : UserTable → UserTable → List LimitChange
user_limits old new = own_limits old new ++ session_limits old new

-- those of a group, or of a user, whom the old file has too
abbrev pub with_old_group : Option GroupTable → GroupTable → List LimitChange
with_old_group None new = []
with_old_group (Some old) new = group_limits old new

abbrev pub with_old_user : Option UserTable → UserTable → List LimitChange
with_old_user None new = []
with_old_user (Some old) new = user_limits old new

abbrev pub stated_group_limits : List GroupTable → GroupTable → List LimitChange
stated_group_limits groups new = with_old_group (group_named groups new.name.now) new

abbrev pub stated_user_limits : List UserTable → UserTable → List LimitChange
stated_user_limits users new = with_old_user (user_named users new.name.now) new

-- those of the server, of the groups and of the users that both files have
abbrev pub limit_changes : Tables → Tables → List LimitChange
limit_changes old new =
    server_limits old.server new.server
    ++ flat_map (stated_group_limits old.groups.items) new.groups.items
    ++ flat_map (stated_user_limits old.users.items) new.users.items

-- ---- groups and users that only one file has

-- the change, unless there is one of that name
abbrev pub unless_named : {X : Type 0} → Option X → NameChange → List NameChange
unless_named None change = change ∷ []
unless_named (Some found) change = []

abbrev pub added_group : List GroupTable → GroupTable → List NameChange
added_group old group = unless_named (group_named old group.name.now) (name.GroupAdded group.name)

abbrev pub gone_group : List GroupTable → GroupTable → List NameChange
gone_group new group =
    unless_named (group_named new group.name.now) (name.GroupTakenOut group.name)

abbrev pub added_user : List UserTable → UserTable → List NameChange
added_user old user = unless_named (user_named old user.name.now) (name.UserAdded user.name)

abbrev pub gone_user : List UserTable → UserTable → List NameChange
gone_user new user = unless_named (user_named new user.name.now) (name.UserTakenOut user.name)

-- ---- the terms of users that both files have

-- the password of `anonymous` is of no account
abbrev pub same_password : UserTable → UserTable → Bool
same_password old new =
    bytes_eq new.name.now (codes "anonymous") || bytes_eq old.password.now new.password.now

abbrev pub same_name : Option (Bor (List ℕ)) → Option (Bor (List ℕ)) → Bool
same_name None None = true
same_name None (Some new) = false
same_name (Some old) None = false
same_name (Some old) (Some new) = bytes_eq old.now new.now

abbrev pub same_rule : OverrideTable → OverrideTable → Bool
same_rule old new =
    bytes_eq old.path.now new.path.now
    && (bytes_eq old.perms.now new.perms.now && same_flag old.recursive new.recursive)

abbrev pub same_rules : List OverrideTable → List OverrideTable → Bool
same_rules [] [] = true
same_rules [] (after ∷ new) = false
same_rules (before ∷ old) [] = false
same_rules (before ∷ old) (after ∷ new) = same_rule before after && same_rules old new

-- a key of a user, unless its values are the same
abbrev pub key_change : Bor (List ℕ) → TermKey → Bool → List NameChange
key_change user key is_same = if is_same then [] else name.UserChanged user key ∷ []

abbrev pub access_terms : UserTable → UserTable → Bool → List NameChange
access_terms old new rules =
    key_change new.name term.Password (same_password old new)
    ++ key_change new.name term.Home (bytes_eq old.home.now new.home.now)
    ++ key_change new.name term.Perms (bytes_eq old.perms.now new.perms.now)
    ++ key_change new.name term.Override rules

abbrev pub message_terms : UserTable → UserTable → List NameChange
message_terms old new =
    key_change new.name term.Group (same_name old.group new.group)
    ++ key_change new.name term.MsgLogin (bytes_eq old.msg_login.now new.msg_login.now)
    ++ key_change new.name term.MsgQuit (bytes_eq old.msg_quit.now new.msg_quit.now)

abbrev pub term_changes : UserTable → UserTable → Bool → List NameChange
term_changes old new rules = access_terms old new rules ++ message_terms old new

abbrev pub rules_of : Tables → List ℕ → List OverrideTable
rules_of tables user = rules_named tables.users.items tables.overrides.items user

abbrev pub with_old_terms : Tables → Tables → Option UserTable → UserTable → List NameChange
with_old_terms old new None user = []
with_old_terms old new (Some before) user =
    term_changes before user
    (same_rules (rules_of old user.name.now) (rules_of new user.name.now))

abbrev pub stated_terms : Tables → Tables → UserTable → List NameChange
stated_terms old new user =
    with_old_terms old new (user_named old.users.items user.name.now) user

-- the groups and users that are added and that are taken out, and the keys of users that change
abbrev pub name_changes : Tables → Tables → List NameChange
name_changes old new =
    flat_map (added_group old.groups.items) new.groups.items
    ++ flat_map (gone_group new.groups.items) old.groups.items
    ++ flat_map (added_user old.users.items) new.users.items
    ++ flat_map (gone_user new.users.items) old.users.items
    ++ flat_map (stated_terms old new) new.users.items

-- ---- words

abbrev pub setting_text : SettingKey → List ℕ
setting_text key.Banner = codes "banner"
setting_text key.MaxCons = codes "max_cons"
setting_text key.MaxConsPerAddress = codes "max_cons_per_address"
setting_text key.MaxLoginAttempts = codes "max_login_attempts"
setting_text key.PermitForeignAddresses = codes "permit_foreign_addresses"
setting_text key.PermitPrivilegedPorts = codes "permit_privileged_ports"
setting_text key.MasqueradeAddress = codes "masquerade_address"
setting_text key.Sessions = codes "sessions"

-- the words after a value that a server takes at its start alone
abbrev pub start_text : SettingKey → List ℕ
start_text key.Sessions = codes ", at the next start alone"
start_text key.Banner = codes ""
start_text key.MaxCons = codes ""
start_text key.MaxConsPerAddress = codes ""
start_text key.MaxLoginAttempts = codes ""
start_text key.PermitForeignAddresses = codes ""
start_text key.PermitPrivilegedPorts = codes ""
start_text key.MasqueradeAddress = codes ""

abbrev pub rate_text : RateKey → List ℕ
rate_text rate.Rate = codes "rate"
rate_text rate.DownRate = codes "down_rate"
rate_text rate.UpRate = codes "up_rate"
rate_text rate.SessionDownRate = codes "session_down_rate"
rate_text rate.SessionUpRate = codes "session_up_rate"
rate_text rate.SessionDownFloor = codes "session_down_floor"
rate_text rate.SessionUpFloor = codes "session_up_floor"

abbrev pub key_text : TermKey → List ℕ
key_text term.Password = codes "password"
key_text term.Home = codes "home"
key_text term.Perms = codes "perms"
key_text term.Override = codes "override"
key_text term.Group = codes "group"
key_text term.MsgLogin = codes "msg_login"
key_text term.MsgQuit = codes "msg_quit"

-- the moment from which the new value is in force
abbrev pub when_text : TermKey → List ℕ
when_text term.Group = codes "at once"
when_text term.Password = codes "for logins from then on"
when_text term.Home = codes "for logins from then on"
when_text term.Perms = codes "for logins from then on"
when_text term.Override = codes "for logins from then on"
when_text term.MsgLogin = codes "for logins from then on"
when_text term.MsgQuit = codes "for logins from then on"
