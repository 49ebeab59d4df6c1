-- Options of a server that have no effect.
use Rattle.std.specs.Prelude.{ℕ, Bool, not, ◌&&◌, if◌then◌else◌, nat_eq, nat_le, List, ◌++◌, codes, Option, Some, None}
use Rattle.std.specs.Fmt.{decimal}
use Rattle.ftpd_program.specs.declared.idle_options.IdleOption.{IdleOption}
use Rattle.ftpd_program.specs.declared.idle_options.IdleOption.TheVariants.{Sync, UserSessions}

abbrev pub idle_text : IdleOption → List ℕ
idle_text Sync = codes "--sync has no effect on a store in memory"
idle_text (UserSessions sessions connections) =
    codes "--user-sessions " ++ (decimal sessions
    ++ (codes " has no effect: max_cons is " ++ decimal connections))

-- a store in memory has no device
abbrev pub idle_sync : Bool → Bool → Option IdleOption
idle_sync syncs is_in_memory = if syncs && is_in_memory then Some Sync else None

-- a number of sessions that is not below that of connections; 0 is no limit
abbrev pub idle_sessions : ℕ → ℕ → Option IdleOption
idle_sessions sessions connections =
    if not (nat_eq sessions 0) && nat_le connections sessions
    then Some (UserSessions sessions connections) else None
