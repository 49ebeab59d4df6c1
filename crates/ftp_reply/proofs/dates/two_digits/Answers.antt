use Rattle.ftp_reply.proofs.NumberLemmas.{zeroed_two}
use Rattle.ftp_reply.proofs.dates.two_digits.Goals as goal

pub returns-clause-digits : goal.returns-clause-digits
returns-clause-digits c = zeroed_two c.args.n c.requires.fits
