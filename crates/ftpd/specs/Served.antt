-- A server of the machine, as it is put together: each part is that of the configuration that was
-- read and of the words of the command line.
use Rattle.std.specs.Prelude.{◌≡◌, ℕ, Bool, [], string_bytes}
use Rattle.std.specs.Arc.{arc_value}
use Rattle.client_patience.specs.declared.patience.Patience.{Patience}
use Rattle.machine_parts.specs.Following.{capacity_of, root_of}
use Rattle.machine_parts.specs.Names.{AreKnown}
use Rattle.machine_parts.specs.declared.asked.ReadText.{ReadText}
use Rattle.machine_parts.specs.declared.facts.Start.{Start}
use Rattle.ftpd.specs.declared.serving.Followed.{Followed}
use Rattle.ftpd.specs.declared.serving.ServedConfig.{ServedConfig}

-- each part of a server is that of the configuration, or of the words
pub record IsServed (read : ReadText) (syncs : Bool) (sessions : ℕ) (patience : Patience)
    (served : ServedConfig) : Type 0 where
  pub users : (arc_value served.parts.terms).users ≡ read.config.users
  pub settings : (arc_value served.parts.terms).settings ≡ read.config.settings
  pub numbers_are : served.parts.numbers ≡ read.config.numbers
  pub limits_are : served.parts.limits ≡ read.config.limits
  pub store_is : served.store ≡ read.config.store
  pub syncs_is : served.syncs ≡ syncs
  pub sessions_are : served.parts.user_sessions ≡ sessions
  pub patience_is : served.parts.patience ≡ patience

-- the parts by which another configuration can follow are those of this one: its names have the
-- numbers that its users have, and nobody was known before
pub record IsFollowed (read : ReadText) (start : Start) (followed : Followed) : Type 0 where
  pub path_is : followed.path ≡ read.path
  pub octets_are : followed.octets ≡ read.octets
  pub names : AreKnown read.config.users [] followed.known.users.items
  pub groups_are : followed.known.groups ≡ read.config.groups
  pub limits_are : followed.known.limits ≡ read.config.limits
  pub numbers_are : followed.at_start.numbers ≡ read.config.numbers
  pub root_is : string_bytes followed.at_start.root ≡ root_of read.config.store
  pub capacity_is : followed.at_start.capacity ≡ capacity_of read.config.store
  pub start_is : followed.at_start.start ≡ start
