-- Passive ports that sessions keep.
use Rattle.std.specs.Prelude.{Bool, true, false, ◌+◌, ◌-◌, nat_le}
use Rattle.std.specs.declared.io.ErrorKind.{ErrorKind}
use Rattle.std.specs.declared.io.ErrorKind.TheVariants.{WouldBlock, ConnectionAborted, Interrupted}
use Rattle.server_config.specs.declared.settings.ServerNumbers.{ServerNumbers}

-- there are as many ports, from the first to the last, as there can be connections
abbrev pub may_keep_ports : ServerNumbers → Bool
may_keep_ports numbers =
    nat_le numbers.max_cons (numbers.passive_last + 1 - numbers.passive_first)

-- a call that accepts and fails by this found no connection, and no other fault
abbrev pub none_waits : ErrorKind → Bool
none_waits WouldBlock = true
none_waits _ = false

-- a call that accepts and fails by this found no connection, or one that was gone, or was
-- interrupted: the machine has no fault
abbrev pub has_no_fault : ErrorKind → Bool
has_no_fault WouldBlock = true
has_no_fault ConnectionAborted = true
has_no_fault Interrupted = true
has_no_fault _ = false
