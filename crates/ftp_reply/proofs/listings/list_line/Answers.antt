use Rattle.ftp_reply.proofs.LineLemmas.{line_listed}
use Rattle.ftp_reply.proofs.listings.list_line.Goals as goal

pub made-requires : goal.made-requires
made-requires g c = record { line = line_listed _ _ _ c.in_ok-text.ensures.text c.requires.line }
