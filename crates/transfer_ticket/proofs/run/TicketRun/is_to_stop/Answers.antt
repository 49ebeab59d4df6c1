use Rattle.std.proofs.Common.{rules}
use Rattle.transfer_ticket.proofs.Keeps.{looks_of}
use Rattle.transfer_ticket.proofs.run.TicketRun.is_to_stop.Goals as goal

pub load-requires : goal.load-requires
load-requires g c = (search rules, search rules, looks_of g.P.EndRule.permits _ _ _ _ c.args.self.now.knows.0)
