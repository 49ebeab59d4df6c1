-- A control session of a configured server, whose store is in memory.
use Rattle.std.specs.Prelude.{◌≡◌, ◌⊎◌, ℕ, List, Option, String, Result, Ok, Err}
use Rattle.std.specs.declared.alloc.Global.{Global}
use Rattle.authorizer.specs.Users.{Users}
use Rattle.server_config.specs.declared.store.ServedStore.TheVariants as served
use Rattle.line_rates.specs.Rates.{Rates}
use Rattle.memory_store.specs.InMemory.{Memory}
use Rattle.rate_floors.specs.Promises.{HasNoSessions, Promises}
use Rattle.script_session.specs.ControlFault.{ControlFault}
use Rattle.script_session.specs.ControlFault.TheVariants.{Memory as NoMemory}
use Rattle.script_session.specs.Scripts.{IsScript}
use Rattle.session_host.specs.Breaks.{IsBreak}
use Rattle.server_config.specs.declared.config.Config.{Config}
use Rattle.session_table.specs.declared.settings.Settings.{Settings}
use Rattle.script_session.specs.declared.fault.SessionFault.{SessionFault}
use Rattle.script_session.specs.declared.fault.SessionFault.TheVariants.{Folder, Control}

-- A whole session over a store, from floors of these rates without a counted session, which are the
-- same at the end: old and new are the octets left to read, out and out' those written, before and
-- after.
pub record IsServedBy (users : Users) (rates : Rates) (store : Memory) (settings : Settings Global)
    (port : ℕ) (old new out out' : Option (List ℕ)) (result : Result (Unit {0}) ControlFault)
    : Type 0 where
  pub promises : Promises
  pub store' : Memory
  pub rates_are : promises.rates ≡ rates
  pub none : HasNoSessions promises
  pub script : IsScript users settings port promises store store' old new out out' result

-- a session that breaks off, or for whose floors there was no memory
abbrev pub IsBrokenBy : Users → Rates → Memory → Settings Global → ℕ → Option (List ℕ)
    → Option (List ℕ) → Option (List ℕ) → Option (List ℕ) → ControlFault → Type 0
IsBrokenBy users rates store settings port old new out out' why =
    IsServedBy users rates store settings port old new out out' (Err why)
    ⊎ ((why ≡ NoMemory) × (new ≡ old) × (out' ≡ out))

-- the configured store is in memory, and has this property
abbrev pub InStore : (Memory → Type 0) → Config → Type 0
InStore Holds config = (store : Memory) × (config.store ≡ served.Memory store) × Holds store

-- the session over the configured store was served whole
abbrev pub IsServed : Config → Option (List ℕ) → Option (List ℕ) → Option (List ℕ)
    → Option (List ℕ) → Type 0
IsServed config old new out out' =
    InStore (λ store. IsServedBy config.users.users config.limits store config.settings
    config.numbers.passive_first old new out out' (Ok tt)) config

-- a folder is configured, or the session over the configured store breaks off
abbrev pub IsUnserved : Config → Option (List ℕ) → Option (List ℕ) → Option (List ℕ)
    → Option (List ℕ) → SessionFault → Type 0
IsUnserved config old new out out' Folder =
    ((text : String Global) × (config.store ≡ served.Folder text)) × (new ≡ old) × (out' ≡ out)
IsUnserved config old new out out' (Control why) =
    InStore (λ store. IsBrokenBy config.users.users config.limits store config.settings
    config.numbers.passive_first old new out out' why) config

-- the number of reads that a session may make
abbrev pub most_reads : ℕ
most_reads = 4294967295

-- a folder is configured; or the session breaks off, if reading and writing may break it off
abbrev pub IsSessionBreak : Type 0 → Type 0 → SessionFault → Type 0
IsSessionBreak reading writing Folder = Unit {0}
IsSessionBreak reading writing (Control why) = IsBreak reading writing why
