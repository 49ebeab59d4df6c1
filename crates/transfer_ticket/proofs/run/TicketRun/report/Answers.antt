use Rattle.std.proofs.Common.{rules}
use Rattle.transfer_ticket.proofs.Keeps.{reports_of}
use Rattle.transfer_ticket.proofs.run.TicketRun.report.Goals as goal

pub store-requires : goal.store-requires
store-requires g c = (search rules, search rules, reports_of g.P.EndRule.permits _ _ c.args.self.seat.me _ c.args.end c.requires.permitted c.exchange.ensures.3)
