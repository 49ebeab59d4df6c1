use Rattle.ftp_wire.proofs.Tokens.{option_whole}
use Rattle.ftp_wire.proofs.telnet.Stage.step.Goals as goal

pub returns-in-Option : goal.returns-in-Option
returns-in-Option c = record { strips = λ octets text s. option_whole octets text c.args.octet (rw c.in-Option.is at s) }
