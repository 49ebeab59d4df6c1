use Rattle.ftp_wire.proofs.TextLemmas.{line_starred}
use Rattle.ftp_wire.proofs.texts.starred_facts_text.Goals as goal

pub made-requires : goal.made-requires
made-requires g c = record { line = rw (c.in_ok-push_starred.ensures.appended, c.new-text.ensures.bytes) (line_starred c.args.facts) }
