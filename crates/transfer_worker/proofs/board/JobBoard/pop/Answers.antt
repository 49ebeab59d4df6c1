use Rattle.transfer_worker.proofs.Orders.{pops, shows}
use Rattle.transfer_worker.proofs.board.JobBoard.pop.Goals as goal

pub pop_as-requires-clause-rule : goal.pop_as-requires-clause-rule
pop_as-requires-clause-rule g c = (pops _ _, shows _ _)
