use Rattle.log_lines.proofs.WrittenBack.{law}
use Rattle.log_lines.proofs.law.written_is_read.Goals as goal

pub returns : goal.returns
returns c = record { law = law }
