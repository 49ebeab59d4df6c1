use Rattle.ftp_wire.proofs.TextLemmas.{line_port}
use Rattle.ftp_wire.proofs.texts.port_text.Goals as goal

pub made-requires : goal.made-requires
made-requires g c = record { line = rw (c.in_ok-push_port.ensures.appended, c.new-text.ensures.bytes) (line_port c.args.port.now) }
