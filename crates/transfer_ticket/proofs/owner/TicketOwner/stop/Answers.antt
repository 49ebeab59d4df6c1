use Rattle.std.proofs.Common.{rules}
use Rattle.transfer_ticket.proofs.Keeps.{stops}
use Rattle.transfer_ticket.proofs.owner.TicketOwner.stop.Goals as goal

pub compare_exchange-requires : goal.compare_exchange-requires
compare_exchange-requires g c = (search rules, search rules, stops g.P.EndRule.permits _ _ _ _ c.requires.begun)
