-- The ready file of a server.
use Rattle.std.specs.Prelude.{Option, Some, None}
use Rattle.std.specs.declared.io.Error.{Error}
use Rattle.ftpd_program.specs.declared.server.ServeFault.{ServeFault}
use Rattle.ftpd_program.specs.declared.server.ServeFault.TheVariants.{ReadyFile}

-- the fault of a server whose ready file could not be made for that reason, if there is one
abbrev pub cause_of : Option Error → ServeFault → ServeFault
cause_of None fault = fault
cause_of (Some reason) fault = ReadyFile
