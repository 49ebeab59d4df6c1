-- A configuration in version 2.
use Rattle.std.specs.Prelude.{◌≡◌, ◌<◌, ◌≤◌, ◌⊎◌, ◌↔◌, ℕ, pos, false, cond, List, Some, length, bytes_eq, codes}
use Rattle.limit_tree.specs.Sharing.{LimitTree}
use Rattle.line_rates.specs.Rates.{Rates}
use Rattle.line_rates.specs.TickTree.{IsTickTree}
use Rattle.line_rates.specs.declared.ask.Ask.{Ask}
use Rattle.toml.specs.Data.{Members, integer, get_member, members_depth, members_have_valid_dates}
use Rattle.toml.specs.Parse.{parse_document}
use Rattle.toml.specs.Text.{IsDocumentText}
use Rattle.server_config.specs.RateRows.{rates_of}
use Rattle.config_file.specs.Tables.{IsTables}
use Rattle.config_file.specs.declared.tables.Tables.{Tables}
use Rattle.server_config.specs.Configs.{IsConfigText}
use Rattle.server_config.specs.Refused.{IsFaultOfText}
use Rattle.server_config.specs.declared.config.Config.{Config}
use Rattle.server_config.specs.declared.fault.ConfigFault.{ConfigFault}
use Rattle.server_config.specs.declared.fault.ConfigFault.TheVariants.{BadDate, TooDeep, TooLong, Memory}
use Rattle.server_config.specs.declared.migration.TheConstants.{DEEPEST, LONGEST_TEXT}

-- the same but for the key version, which is 2
abbrev pub IsVersioned : Members → Members → Type 0
IsVersioned old new =
    (key : List ℕ)
    → get_member key new
    ≡ cond (bytes_eq (codes "version") key) (Some (integer (pos 2))) (get_member key old)

-- The text prints the document of the octets with version 2, and is read as that document: both
-- texts are of one configuration, with its users, its store, its limits at every tick and
-- everything more.
pub record IsMigrated (octets text : List ℕ) : Type 0 where
  pub old : Members
  pub new : Members
  pub document : parse_document octets ≡ Some old
  pub versioned : IsVersioned old new
  pub printed : IsDocumentText false new text
  pub reads_back : parse_document text ≡ Some new
  pub short : length text ≤ LONGEST_TEXT
  pub config : Config
  pub was : IsConfigText octets config
  pub stays : IsConfigText text config

-- the document cannot be printed so that it is read back: it has a date that no text can write, or
-- it nests deeper than the reader goes down, or a text that prints it is longer than one that is
-- read
abbrev pub IsUnprinted : Members → ConfigFault → Type 0
IsUnprinted document BadDate = members_have_valid_dates document ≡ false
IsUnprinted document TooDeep = DEEPEST < members_depth document
IsUnprinted document TooLong =
    (text : List ℕ) × IsDocumentText false document text × (LONGEST_TEXT < length text)
IsUnprinted document fault = fault ≡ Memory

-- the text is refused; or it is not, and its document with version 2 cannot be printed
abbrev pub IsUnmigrated : List ℕ → ConfigFault → Type 0
IsUnmigrated octets fault = IsFaultOfText octets fault
    ⊎ ((old new : Members) × (parse_document octets ≡ Some old) × IsVersioned old new
    × IsUnprinted new fault)

-- the document states these rates
abbrev pub StatesRates : Members → Rates → Type 0
StatesRates document rates =
    (tables : Tables) × IsTables document tables
    × (rates ≡ rates_of tables.server tables.groups.items tables.users.items)

-- the trees of a tick are those of the document in version 2
abbrev pub SameBranches : Type 0
SameBranches =
    (old new : Members) (first second : Rates) → IsVersioned old new → StatesRates old first
    → StatesRates new second
    → (tick : ℕ) (asks : List Ask) (tree : LimitTree)
    → IsTickTree first tick asks tree ↔ IsTickTree second tick asks tree
