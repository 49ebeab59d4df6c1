use Rattle.transfer_worker.proofs.Orders.{begins}
use Rattle.transfer_worker.proofs.opened.open_board.Goals as goal

pub ruled-requires-clause-rule : goal.ruled-requires-clause-rule
ruled-requires-clause-rule g c = begins
