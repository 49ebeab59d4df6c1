use Rattle.transfer_worker.proofs.Orders.{pushes, shows}
use Rattle.transfer_worker.proofs.board.JobBoard.push.Goals as goal

pub push_as-requires-clause-rule : goal.push_as-requires-clause-rule
push_as-requires-clause-rule g c = (pushes _ _ _ _, shows _ _)
