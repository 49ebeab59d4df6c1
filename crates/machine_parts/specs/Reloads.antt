-- A reload: the configuration that a running server takes next, whole, and what its names keep.
use Rattle.std.specs.Prelude.{◌≡◌, ◌⊎◌, ◌<◌, ◌≤◌, ℕ, List, Option, None, Some, IfSome}
use Rattle.config_change.specs.Past.{KeepPast}
use Rattle.line_rates.specs.Rates.{Rates}
use Rattle.server_config.specs.Configs.{IsConfigText}
use Rattle.server_config.specs.declared.config.Config.{Config}
use Rattle.machine_parts.specs.Facts.{AreFacts}
use Rattle.machine_parts.specs.Following.{AreParts, IsHindered, IsNoConfig, IsNumberedAs, IsPastFault, IsUnhindered, IsUnnumbered}
use Rattle.machine_parts.specs.Names.{number_in}
use Rattle.machine_parts.specs.declared.following.AtStart.{AtStart}
use Rattle.machine_parts.specs.declared.following.NextConfig.{NextConfig}
use Rattle.machine_parts.specs.declared.known.Known.{Known}

-- All parts are those of the configuration that the octets are: nothing hinders the server from
-- taking it, its names have the numbers that they are known by, and the limits are beside those of
-- the past.
pub record IsNext (octets : List ℕ) (start : AtStart) (known : Known) (next : NextConfig)
    : Type 0 where
  pub read : Config
  pub is_read : IsConfigText octets read
  pub unhindered : IsUnhindered start read
  pub config : Config
  pub numbered : IsNumberedAs read known config
  pub limits : Rates
  pub past : KeepPast config.limits known.limits limits
  pub parts : AreParts config limits known next
  pub facts : IfSome next.facts (AreFacts start.start config limits)

-- the configuration that the octets are is hindered, or cannot have its numbers, or its limits have
-- a fault beside those of the past
abbrev pub IsUntaken : AtStart → Known → Config → Option (List ℕ) → Type 0
IsUntaken start known read words =
    IsHindered start read words
    ⊎ (IsUnhindered start read × (IsUnnumbered read known words
    ⊎ ((config : Config) × IsNumberedAs read known config × IsPastFault config known words)))

-- the words for which the octets of the file at a path are not taken; none for lack of memory
abbrev pub IsNotTaken : List ℕ → List ℕ → AtStart → Known → Option (List ℕ) → Type 0
IsNotTaken path octets start known None = Unit {0}
IsNotTaken path octets start known (Some words) =
    IsNoConfig path octets (Some words)
    ⊎ ((read : Config) × IsConfigText octets read × IsUntaken start known read (Some words))

-- A name keeps its number over a reload, a name that was not known gets one that nobody has had,
-- and the next number does not fall.
pub record KeepsNames (old new : Known) : Type 0 where
  pub kept : (name : List ℕ) (number : ℕ) → number_in old.users.items name ≡ Some number
      → number_in new.users.items name ≡ Some number
  pub fresh : (name : List ℕ) (number : ℕ) → number_in old.users.items name ≡ None
      → number_in new.users.items name ≡ Some number
      → (old.next ≤ number) × (number < new.next)
  pub next : old.next ≤ new.next
