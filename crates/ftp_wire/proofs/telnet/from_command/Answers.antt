use Rattle.std.proofs.Common.{inl, inr}
use Rattle.ftp_wire.proofs.Tokens.{command_escaped, command_whole}
use Rattle.ftp_wire.proofs.telnet.from_command.Goals as goal

pub returns-then-octet-eq-IAC : goal.returns-then-octet-eq-IAC
returns-then-octet-eq-IAC c = record { strips = λ octets text s. command_escaped octets text c.args.octet (elim c.if-octet-eq-IAC.either [ inl h ↦ inl h | inr h ↦ inr h.1 ]) s }

pub returns-then-octet-lt-SB : goal.returns-then-octet-lt-SB
returns-then-octet-lt-SB c = record { strips = λ octets text s. command_whole octets text c.args.octet c.if-octet-eq-IAC.false.0 c.if-octet-lt-SB.true s }
