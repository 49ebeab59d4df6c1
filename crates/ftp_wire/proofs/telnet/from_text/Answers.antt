use Rattle.ftp_wire.proofs.Tokens.{text_plain}
use Rattle.ftp_wire.proofs.telnet.from_text.Goals as goal

pub returns-else-octet-eq-IAC : goal.returns-else-octet-eq-IAC
returns-else-octet-eq-IAC c = record { strips = λ octets text s. text_plain octets text c.args.octet c.if-octet-eq-IAC.false s }
