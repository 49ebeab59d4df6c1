use Rattle.std.proofs.Common.{append-nil}
use Rattle.ftp_wire.proofs.Tokens.{inside_end, inside_pair}
use Rattle.ftp_wire.proofs.telnet.from_inside_command.Goals as goal

pub returns-then-octet-eq-SE : goal.returns-then-octet-eq-SE
returns-then-octet-eq-SE c = record { strips = λ octets text s. rw (c.if-octet-eq-SE.true, ← append-nil text) (inside_end octets text s) }

pub returns-else-octet-eq-SE : goal.returns-else-octet-eq-SE
returns-else-octet-eq-SE c = record { strips = λ octets text s. inside_pair octets text c.args.octet c.if-octet-eq-SE.false s }
