-- The configuration that a running server takes next.
use Rattle.std.specs.Prelude.{◌≡◌, ◌⊎◌, ◌≢◌, ◌≤◌, ℕ, List, map, codes, Option, Some, None, Ok, string_bytes}
use Rattle.std.specs.Arc.{arc_value}
use Rattle.authorizer.specs.Users.{Accounts}
use Rattle.config_change.specs.Fixed.{IsCountFault, IsFixedKey}
use Rattle.config_change.specs.Past.{KeepPast, groups_with_past, users_with_past}
use Rattle.config_change.specs.Renumbered.{IsLimitsFault, IsRefused, IsRenumbered}
use Rattle.config_change.specs.Words.{count_text, key_text}
use Rattle.config_change.specs.declared.fault.RenumberFault.{RenumberFault}
use Rattle.config_change.specs.declared.fault.RenumberFault.TheVariants as RenumberFault
use Rattle.config_change.specs.declared.fixed.CountFault.{CountFault}
use Rattle.config_change.specs.declared.fixed.FixedKey.{FixedKey}
use Rattle.config_change.specs.declared.fixed.FixedValues.{FixedValues}
use Rattle.line_rates.specs.Rates.{Rates}
use Rattle.line_rates.specs.Stated.{limits_fault}
use Rattle.server_config.specs.Refused.{IsFaultOfText}
use Rattle.server_config.specs.declared.config.Config.{Config}
use Rattle.server_config.specs.declared.fault.ConfigFault.{ConfigFault}
use Rattle.server_config.specs.declared.fault.ConfigFault.TheVariants as ConfigFault
use Rattle.server_config.specs.declared.settings.ServerNumbers.{ServerNumbers}
use Rattle.server_config.specs.declared.store.ServedStore.{ServedStore}
use Rattle.server_config.specs.declared.store.ServedStore.TheVariants.{Memory, Folder}
use Rattle.machine_parts.specs.Names.{AreKnown, HasNumbers}
use Rattle.machine_parts.specs.Reasons.{BeginsWith}
use Rattle.machine_parts.specs.declared.following.AtStart.{AtStart}
use Rattle.machine_parts.specs.declared.following.NextConfig.{NextConfig}
use Rattle.machine_parts.specs.declared.known.Known.{Known}

-- the root of a store, as a configuration states it
abbrev pub root_of : ServedStore → List ℕ
root_of (Memory store) = codes "memory"
root_of (Folder path) = string_bytes path

-- the capacity of a store in memory; 0 for a folder
abbrev pub capacity_of : ServedStore → ℕ
capacity_of (Memory store) = store.capacity
capacity_of (Folder path) = 0

-- the values that stay the same while a server runs
pub record AreFixed (numbers : ServerNumbers) (root : List ℕ) (capacity : ℕ)
    (values : FixedValues) : Type 0 where
  pub numbers_are : values.numbers ≡ numbers
  pub root_is : values.root.now ≡ root
  pub capacity_is : values.capacity ≡ capacity

-- those of a start, and those of a configuration
abbrev pub AreOfStart : AtStart → FixedValues → Type 0
AreOfStart start = AreFixed start.numbers (string_bytes start.root) start.capacity

abbrev pub AreOfConfig : Config → FixedValues → Type 0
AreOfConfig config = AreFixed config.numbers (root_of config.store) (capacity_of config.store)

-- Nothing hinders a server from taking a configuration: no key that cannot change has another
-- value, and the maximum number of connections is not above that of the start.
abbrev pub IsUnhindered : AtStart → Config → Type 0
IsUnhindered start config =
    (before : FixedValues) × (after : FixedValues) × AreOfStart start before
    × AreOfConfig config after × IsFixedKey before after None
    × IsCountFault start.numbers.max_cons 0 config.numbers.max_cons None

-- words that have this text, or none for lack of memory
abbrev pub AreWords : List ℕ → Option (List ℕ) → Type 0
AreWords text None = Unit {0}
AreWords text (Some words) = words ≡ text

-- the words name the first key that cannot change and has another value; or no key has one, and the
-- maximum number of connections is above that of the start
abbrev pub IsHindered : AtStart → Config → Option (List ℕ) → Type 0
IsHindered start config words =
    (before : FixedValues) × (after : FixedValues) × AreOfStart start before
    × AreOfConfig config after
    × (((key : FixedKey) × IsFixedKey before after (Some key) × AreWords (key_text key) words)
    ⊎ (IsFixedKey before after None × ((fault : CountFault)
    × IsCountFault start.numbers.max_cons 0 config.numbers.max_cons (Some fault)
    × AreWords (count_text fault) words)))

abbrev pub IsHindrance : AtStart → Config → Option (Option (List ℕ)) → Type 0
IsHindrance start config None = IsUnhindered start config
IsHindrance start config (Some words) = IsHindered start config words

-- the octets of the file at a path are a configuration with a fault, and the words begin with the
-- path; none for lack of memory
abbrev pub IsNoConfig : List ℕ → List ℕ → Option (List ℕ) → Type 0
IsNoConfig path octets None = Unit {0}
IsNoConfig path octets (Some words) =
    ((fault : ConfigFault) × (fault ≢ ConfigFault.Memory) × IsFaultOfText octets fault)
    × BeginsWith path words (λ why. Unit {0})

-- A configuration with the numbers that a server knows its names by.
abbrev pub IsNumberedAs : Config → Known → Config → Type 0
IsNumberedAs config known new =
    (earlier : Accounts) × HasNumbers known.users.items known.next earlier
    × IsRenumbered config earlier (map string_bytes known.groups.items) new

-- it cannot have them; or memory ran out
abbrev pub IsUnnumbered : Config → Known → Option (List ℕ) → Type 0
IsUnnumbered config known None = Unit {0}
IsUnnumbered config known (Some words) =
    (earlier : Accounts) × HasNumbers known.users.items known.next earlier
    × ((fault : RenumberFault) × (fault ≢ RenumberFault.Memory)
    × IsRefused config earlier (map string_bytes known.groups.items) fault)

-- the limits under those numbers have a fault beside those of the past; or memory ran out
abbrev pub IsPastFault : Config → Known → Option (List ℕ) → Type 0
IsPastFault config known None = Unit {0}
IsPastFault config known (Some words) =
    (fault : RenumberFault) × (fault ≢ RenumberFault.Memory)
    × IsLimitsFault (limits_fault config.limits.server config.limits.down config.limits.up
    (groups_with_past config.limits known.limits) (users_with_past config.limits known.limits))
    fault

-- The parts of a configuration: its users and settings are the terms, and its names are known
-- beside those that were.
pub record AreParts (config : Config) (limits : Rates) (known : Known) (next : NextConfig)
    : Type 0 where
  pub users : (arc_value next.terms).users ≡ config.users
  pub settings : (arc_value next.terms).settings ≡ config.settings
  pub limits_are : next.limits ≡ limits
  pub numbers_are : next.numbers ≡ config.numbers
  pub names : AreKnown config.users known.users.items next.known.users.items
  pub groups : next.known.groups ≡ config.groups
  pub limits_known : next.known.limits ≡ limits
