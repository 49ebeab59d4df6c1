use Rattle.std.proofs.Common.{rules}
use Rattle.transfer_ticket.proofs.Keeps.{enters, sits_of}
use Rattle.transfer_ticket.proofs.owner.TicketOwner.sit.Goals as goal

pub load_new_seat-seat-requires : goal.load_new_seat-seat-requires
load_new_seat-seat-requires g c = (search rules, enters g.P.EndRule.permits _)

pub compare_exchange-requires : goal.compare_exchange-requires
compare_exchange-requires g c = (search rules, search rules, sits_of g.P.EndRule.permits _ _ _ c.load_new_seat-seat.ensures.2)
