use Rattle.std.proofs.Common.{rules}
use Rattle.transfer_ticket.proofs.Keeps.{cancels, front}
use Rattle.transfer_ticket.proofs.owner.TicketOwner.cancel.Goals as goal

pub compare_exchange-requires : goal.compare_exchange-requires
compare_exchange-requires g c = (search rules, search rules, cancels g.P.EndRule.permits _ _ _ _ c.requires.busy)

pub exchange-requires : goal.exchange-requires
exchange-requires g c = (search rules, front _ _ _ _ (c.compare_exchange.ensures.2.0 c.if-compare_exchange-ne2.false).3)
