use Rattle.ftp_wire.proofs.TextLemmas.{line_facts}
use Rattle.ftp_wire.proofs.texts.facts_text.Goals as goal

pub made-requires : goal.made-requires
made-requires g c = record { line = rw (c.in_ok-push_facts.ensures.appended, c.new-text.ensures.bytes) (line_facts c.args.facts) }
