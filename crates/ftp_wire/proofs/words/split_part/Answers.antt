use Rattle.std.proofs.Common.{sym, ◌==◌}
use Rattle.ftp_wire.proofs.Splitting.{split_absent, split_found}
use Rattle.ftp_wire.proofs.words.split_part.Goals as goal

pub returns-in-Some-clause-parts : goal.returns-in-Some-clause-parts
returns-in-Some-clause-parts c = split_found (λ octet. octet == c.args.wanted) c.args.octets.now c.in-Some.at (sym c.in-Some.ensures.first)

pub returns-in-None-clause-parts : goal.returns-in-None-clause-parts
returns-in-None-clause-parts c = split_absent (λ octet. octet == c.args.wanted) c.args.octets.now (sym c.in-None.ensures.first)
