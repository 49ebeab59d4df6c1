use Rattle.ftp_wire.proofs.Tokens.{inside_octet}
use Rattle.ftp_wire.proofs.telnet.from_inside.Goals as goal

pub returns-else-octet-eq-IAC : goal.returns-else-octet-eq-IAC
returns-else-octet-eq-IAC c = record { strips = λ octets text s. inside_octet octets text c.args.octet c.if-octet-eq-IAC.false s }
