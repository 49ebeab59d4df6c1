use Rattle.ftp_reply.proofs.LineLemmas.{line_entry}
use Rattle.ftp_reply.proofs.listings.mlst_entry.Goals as goal

pub made-requires : goal.made-requires
made-requires g c = record { line = line_entry _ _ _ _ _ c.in_ok-text.ensures.text c.requires.line }
