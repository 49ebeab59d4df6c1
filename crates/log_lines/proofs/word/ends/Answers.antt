use Rattle.log_lines.proofs.Cuts.{some_left}
use Rattle.log_lines.proofs.word.ends.Goals as goal

pub returns-in-Some : goal.returns-in-Some
returns-in-Some c = record { ends = some_left c.args.mark c.args.rest c.in-Some.field-0 c.in-Some.is }
