use Rattle.std.proofs.Common.{rules}
use Rattle.transfer_ticket.proofs.Keeps.{leaves_of}
use Rattle.transfer_ticket.proofs.owner.TicketOwner.leave.Goals as goal

pub store-requires : goal.store-requires
store-requires g c = (search rules, search rules, leaves_of g.P.EndRule.permits _ _ _ c.requires.idle (search rules))
