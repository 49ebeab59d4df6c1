use Rattle.line_queue.proofs.Accounts.{lines_are_accounted}
use Rattle.line_queue.proofs.laws.lines_are_accounted.Goals as goal

pub returns : goal.returns
returns c = record { accounted = lines_are_accounted }
