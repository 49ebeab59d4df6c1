use Rattle.ftp_reply.proofs.NumberLemmas.{zeroed_four}
use Rattle.ftp_reply.proofs.dates.four_digits.Goals as goal

pub returns-clause-digits : goal.returns-clause-digits
returns-clause-digits c = zeroed_four c.args.n c.requires.fits
