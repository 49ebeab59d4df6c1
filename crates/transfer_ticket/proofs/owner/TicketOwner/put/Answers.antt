use Rattle.std.proofs.Common.{rules}
use Rattle.transfer_ticket.proofs.Keeps.{puts_of}
use Rattle.transfer_ticket.proofs.owner.TicketOwner.put.Goals as goal

pub store-requires : goal.store-requires
store-requires g c = (search rules, search rules, puts_of g.P.EndRule.permits _ _ c.args.self.now.seat.me _ c.args.job c.requires.idle c.exchange.ensures.3)
