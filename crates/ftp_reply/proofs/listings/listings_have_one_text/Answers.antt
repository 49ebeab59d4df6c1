use Rattle.ftp_reply.proofs.DeterminedLemmas.{entries, lines, moments}
use Rattle.ftp_reply.proofs.listings.listings_have_one_text.Goals as goal

pub returns : goal.returns
returns c = record { moments = moments; lines = lines; entries = entries }
