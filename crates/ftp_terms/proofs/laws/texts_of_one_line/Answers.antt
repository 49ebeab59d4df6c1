use Rattle.ftp_terms.proofs.LineLemmas.{line_joined, line_printed}
use Rattle.ftp_terms.proofs.laws.texts_of_one_line.Goals as goal

pub returns-clause-joined : goal.returns-clause-joined
returns-clause-joined c = line_joined

pub returns-clause-plain : goal.returns-clause-plain
returns-clause-plain c = line_printed
