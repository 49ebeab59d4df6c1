-- The reason for which a server that has the one configuration since its start would refuse the
-- other one, whoever is connected.
use Rattle.std.specs.Prelude.{◌≡◌, List, ℕ, Option, Some, None, bytes_eq, codes, if◌then◌else◌}
use Rattle.config_change.specs.Fixed.{IsCountFault, IsFixedKey}
use Rattle.config_change.specs.Words.{count_text, key_text}
use Rattle.config_change.specs.declared.fixed.FixedValues.{FixedValues}
use Rattle.config_file.specs.declared.stated.ServerTable.{ServerTable}
use Rattle.server_config.specs.Settings.{AreNumbers}
use Rattle.change_report.specs.declared.reason.Reason.{Reason}
use Rattle.change_report.specs.declared.reason.Reason.TheVariants.{Key, Count}

-- the capacity of a store in memory; 0 for a folder
abbrev pub store_capacity : ServerTable → ℕ
store_capacity server = if bytes_eq server.root.now (codes "memory") then server.capacity else 0

-- the values of a table that stay the same while a server runs
pub record AreFixed (server : ServerTable) (values : FixedValues) : Type 0 where
  pub numbers : AreNumbers server values.numbers
  pub root : values.root.now ≡ server.root.now
  pub capacity : values.capacity ≡ store_capacity server

-- a key that cannot change has another value; or none has, and the maximum number of connections
-- is above that of the start; or neither
abbrev pub IsReasonBy : FixedValues → FixedValues → ℕ → ℕ → Option Reason → Type 0
IsReasonBy before after room stated (Some (Key key)) = IsFixedKey before after (Some key)
IsReasonBy before after room stated (Some (Count fault)) =
    IsFixedKey before after None × IsCountFault room 0 stated (Some fault)
IsReasonBy before after room stated None =
    IsFixedKey before after None × IsCountFault room 0 stated None

-- the same for two tables
abbrev pub IsReason : ServerTable → ServerTable → Option Reason → Type 0
IsReason old new reason =
    (before after : FixedValues) × AreFixed old before × AreFixed new after
    × IsReasonBy before after old.max_cons new.max_cons reason

abbrev pub reason_text : Reason → List ℕ
reason_text (Key key) = key_text key
reason_text (Count fault) = count_text fault
