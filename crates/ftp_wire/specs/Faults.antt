-- Replies to lines that are not commands (RFC 959, section 4.2.1).
use Rattle.std.specs.Prelude.{codes}
use Rattle.ftp_reply.specs.Replies.{ReplyForm, OneLine}
use Rattle.ftp_wire.specs.declared.faults.LineFault.{LineFault}
use Rattle.ftp_wire.specs.declared.faults.LineFault.TheVariants as fault

abbrev pub fault_reply : LineFault → ReplyForm
fault_reply fault.TooLong = OneLine 500 (codes "Line too long")
fault_reply fault.Empty = OneLine 500 (codes "Empty line")
fault_reply fault.Unknown = OneLine 500 (codes "Unknown command")
fault_reply fault.NotServed = OneLine 502 (codes "Command not served")
fault_reply fault.ArgumentMissing = OneLine 501 (codes "Argument missing")
fault_reply fault.ArgumentUnwanted = OneLine 501 (codes "Argument not wanted")
fault_reply fault.BadArgument = OneLine 501 (codes "Bad argument")
fault_reply fault.BadParameter = OneLine 504 (codes "Parameter not served")
