use Rattle.std.proofs.Common.{rules}
use Rattle.transfer_ticket.proofs.Keeps.{enters, takes_job_of, front}
use Rattle.transfer_ticket.proofs.run.TicketRun.take.Goals as goal

pub load_new_seat-seat-requires : goal.load_new_seat-seat-requires
load_new_seat-seat-requires g c = (search rules, enters g.P.EndRule.permits _)

pub compare_exchange-requires : goal.compare_exchange-requires
compare_exchange-requires g c = (search rules, search rules, takes_job_of g.P.EndRule.permits _ _ _ c.load_new_seat-seat.ensures.2)

pub exchange-requires : goal.exchange-requires
exchange-requires g c = (search rules, front _ _ _ _ (c.compare_exchange.ensures.2.0 c.if-compare_exchange-ne2.false).1)
